use Rattle.std.proofs.Common.{◌≡◌, ◌++◌, drop}
use Rattle.esc_reports.specs.ParkedText.{parked_lines}
use Rattle.esc_reports.proofs.parked.write_bodies.Given as goal

-- what was written, and the bodies that are left
abbrev pub invariant-loop-body : goal.invariant-loop-body
invariant-loop-body l = l.lines ++ parked_lines (drop l.body-index l.bodies) ≡ l.fn.lines ++ parked_lines l.bodies
