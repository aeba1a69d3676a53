use Rattle.std.proofs.Common.{refl}
use Rattle.esc_desk.proofs.laws.worked_migration.Goals as goal

pub returns : goal.returns
returns c = record {
  answered = refl;
  not_kept = refl;
  not_held = refl;
  again = refl;
  held = refl;
  domains = refl;
}
