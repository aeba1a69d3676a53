use Rattle.std.proofs.Common.{take}
use Rattle.esc_zone.specs.Addresses.{HasAddress, said_texts}
use Rattle.esc_zone.proofs.address.has_address.Given as goal

abbrev pub invariant-loop-row : goal.invariant-loop-row
invariant-loop-row l = HasAddress (said_texts (take l.row-index l.rows)) → ⊥
