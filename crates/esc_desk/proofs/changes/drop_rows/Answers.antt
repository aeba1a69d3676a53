use Rattle.std.proofs.Common.{◌≡◌, ◌+◌, List, ℕ, None, drop, get_or, sym, ap, ◌∙◌}
use Rattle.std.proofs.lemmas.List.{at_drop_more}
use Rattle.esc_manifest.specs.declared.row.MRow.{MRow}
use Rattle.esc_manifest.specs.ManifestRows.{row_at, no_row}
use Rattle.esc_store.specs.StoreState.{with_parked}
use Rattle.esc_store.specs.StandingLaws.{goes_then, part_was}
use Rattle.esc_events.specs.Amended.{with_all_dropped}
use Rattle.esc_desk.proofs.changes.drop_rows.Goals as goal

pub loop-row-preserved : goal.loop-row-preserved
loop-row-preserved g c =
    let now = c.loop-row.invariant in
    let i = c.loop-row.row-index in
    let n = c.args.rows.now in
    let r = get_or c.args.dropped.now i 0 in
    let left = drop (i + 1) c.args.dropped.now in
    let d = c.in-Some.listed.now.digest in
    let same : d ≡ (row_at n r).digest = ap (λ (m : MRow). m.digest) (c.in-Some.ensures.lookup.3.1 no_row) in
    record {
      goes_on = goes_then now.goes_on c.unpark.ensures.part.goes_on;
      count = c.unpark.ensures.part.count ∙ now.count;
      makes = λ clean before k rest.
          let so_far = now.makes (part_was c.unpark.ensures.part clean) before k rest in (
            with_parked so_far.0 d None,
            c.in_ok-unpark.ensures.part.makes clean before so_far.0 so_far.1,
            ap (λ (x : List ℕ). with_all_dropped n (with_parked so_far.0 x None) left) same
                ∙ sym (at_drop_more (with_all_dropped n so_far.0) c.args.dropped.now i 0 c.loop-row-test.true)
                ∙ so_far.2,
          );
      holds = λ s h. c.in_ok-unpark.ensures.part.holds s (now.holds s h);
    }
