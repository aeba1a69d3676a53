use Rattle.std.proofs.Common.{refl}
use Rattle.std.specs.Fmt.{digits}
use Rattle.esc_handover.proofs.SeriesRestoring.{series_restored}
use Rattle.esc_handover.proofs.laws.series_restores_its_tables.Goals as goal

pub returns-clause-restored : goal.returns-clause-restored
returns-clause-restored c = series_restored c.series_has_its_objects.ensures.objects

pub returns-clause-rows : goal.returns-clause-rows
unfolding digits
returns-clause-rows c = refl
