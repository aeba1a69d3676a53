use Rattle.std.proofs.Common.{◌≡◌, ◌++◌, take}
use Rattle.esc_zone.specs.Addresses.{said_texts}
use Rattle.esc_zone.specs.Noted.{host_texts}
use Rattle.esc_zone.proofs.taking.add_rows.Given as goal

abbrev pub invariant-loop-row : goal.invariant-loop-row
invariant-loop-row l = said_texts l.said.items ≡ said_texts l.fn.said.items ++ host_texts (take l.row-index l.rows)
