use Rattle.std.proofs.Common.{refl}
use Rattle.esc_desk.proofs.laws.worked_migration_unlisted.Goals as goal

pub returns : goal.returns
returns c = record { parked = refl; adopted = refl; parked_no_more = refl }
