use Rattle.esc_store.proofs.Common.{◌∙◌, map, take, refl, arith, map_push, map_more, new_entry}
use Rattle.esc_store.proofs.Common.{new_image, image_now, was_clean}
use Rattle.esc_store.proofs.Filled.{follows_then, row_free}
use Rattle.esc_store.proofs.filling.Change+S.find_images.Goals as goal

pub loop-at-preserved : goal.loop-at-preserved
loop-at-preserved g c = record {
  follows = follows_then c.loop-at.invariant.follows c.find_before.ensures.follows;
  count = c.find_before.ensures.count ∙ c.loop-at.invariant.count;
  length = omega (arith, c.in_ok-push.ensures.len, c.loop-at.invariant.length);
  images = λ honest s free held.
      let row = c.index-rows-at.result in
      let before = c.loop-at.invariant.images
      (was_clean c.find_before.ensures.follows.goes_on.survives honest) s free held in
      let found = c.in_ok-record.ensures.found honest s (λ are. row_free s c.args.rows.now
      c.loop-at.at row c.loop-at-test.true c.index-rows-at.is (free are)) before.1 in (
        rw (
          c.in_ok-push.ensures.items,
          map_push new_image c.loop-at.images.items _,
          before.0,
          found.0,
          map_more new_entry c.args.rows.now c.loop-at.at row c.loop-at-test.true,
          ← c.index-rows-at.is,
          map_push (image_now s)
              (map new_entry (take c.loop-at.at c.args.rows.now)) (new_entry row),
        ) refl,
        found.1,
      );
}
