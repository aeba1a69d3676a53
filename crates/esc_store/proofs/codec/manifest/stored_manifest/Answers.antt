use Rattle.esc_store.proofs.Common.{◌∙◌, ap, map, indexed_row, listed_row}
use Rattle.esc_store.proofs.Manifests.{one_stored}
use Rattle.esc_store.proofs.codec.manifest.stored_manifest.Goals as goal

pub loop-at-preserved : goal.loop-at-preserved
loop-at-preserved c = ap (map listed_row) c.in_ok-push.ensures.items
    ∙ one_stored _ _ _ _ _ c.loop-at.invariant c.loop-at-test.true
    (c.in_ok-row.ensures.row ∙ ap (indexed_row c.loop-at.at) c.index-rows-at.is)
