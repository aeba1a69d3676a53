use Rattle.std.proofs.Common.{◌≡◌, ◌++◌, drop, map}
use Rattle.esc_check.specs.Findings.{missing_target}
use Rattle.esc_check.proofs.link.add_all_missing.Given as goal

abbrev pub invariant-loop-link : goal.invariant-loop-link
invariant-loop-link l = l.found.items
    ++ map missing_target (drop l.link-index l.links) ≡ l.fn.found.items ++ map missing_target l.links
