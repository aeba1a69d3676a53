use Rattle.std.proofs.Common.{ap, ◌∙◌, refl}
use Rattle.std.proofs.lemmas.Map.Text.{btree_map_updates_str}
use Rattle.esc_manifest.proofs.Places.{place_put}
use Rattle.esc_manifest.proofs.apart.own_places.Goals as goal

pub loop-row-preserved : goal.loop-row-preserved
loop-row-preserved c =
    place_put c.args.rows.now c.loop-row.row-index
    c.row-item.result c.as_str.result.now c.header.inside.place c.loop-row.places c.insert.new.self
    c.loop-row-test.true c.row-item.is (c.as_str.ensures.value ∙ ap (λ h. h.id) c.header.view_is)
    (ap (λ h. h.place) c.header.view_is)
    (λ q is. c.if-not-is_own.ensures refl q (c.in_ok-before.ensures.old ∙ is))
    (btree_map_updates_str c.as_str.result.now
    c.loop-row.places c.insert.new.self _ c.in_ok-before.ensures.updates) c.loop-row.invariant
