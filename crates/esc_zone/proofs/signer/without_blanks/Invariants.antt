use Rattle.std.proofs.Common.{◌≡◌, take, filter}
use Rattle.std.specs.Prelude.{not}
use Rattle.esc_zone.specs.Signers.{is_blank}
use Rattle.esc_zone.proofs.signer.without_blanks.Given as goal

abbrev pub invariant-loop-sign : goal.invariant-loop-sign
invariant-loop-sign l = l.signs.items ≡ filter (λ b. not (is_blank b)) (take l.sign-index l.text)
