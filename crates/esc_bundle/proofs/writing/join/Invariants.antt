use Rattle.std.proofs.Common.{◌≡◌}
use Rattle.esc_bundle.proofs.Written.{text_of}
use Rattle.esc_bundle.proofs.writing.join.Given as goal

abbrev pub invariant-loop-section : goal.invariant-loop-section
invariant-loop-section l = l.text.items ≡ text_of l.sections l.section-index
