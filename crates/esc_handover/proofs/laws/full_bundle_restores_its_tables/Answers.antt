use Rattle.esc_handover.proofs.Restoring.{full_objects, full_restored}
use Rattle.esc_handover.proofs.laws.full_bundle_restores_its_tables.Goals as goal

pub returns-clause-objects : goal.returns-clause-objects
returns-clause-objects c = full_objects

pub returns-clause-restored : goal.returns-clause-restored
returns-clause-restored c =
    full_restored c.series_has_its_objects.ensures.objects c.series_has_its_objects.ensures.one
