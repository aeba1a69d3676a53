use Rattle.std.proofs.Common.{take}
use Rattle.esc_zone.specs.Addresses.{IsServersText, said_texts}
use Rattle.esc_zone.specs.Lists.{GivesEach}
use Rattle.esc_zone.proofs.address.given_by.Given as goal

abbrev pub invariant-loop-row : goal.invariant-loop-row
invariant-loop-row l = GivesEach IsServersText (said_texts (take l.row-index l.rows)) l.given.items
