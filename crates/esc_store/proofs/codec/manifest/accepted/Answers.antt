use Rattle.esc_store.proofs.Manifests.{accepted_is}
use Rattle.esc_store.proofs.codec.manifest.accepted.Goals as goal

pub returns-in-Ok-clause-rows : goal.returns-in-Ok-clause-rows
returns-in-Ok-clause-rows c = accepted_is _ c.from_rows.result c.in-Ok.manifest
    c.args.rows.items c.from_rows.ensures.accepted c.from_rows.ensures.refused c.in-Ok.is
