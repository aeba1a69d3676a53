use Rattle.std.proofs.Common.{◌≡◌, ◌+◌, List, ℕ, drop, get_or, sym, ap, ◌∙◌}
use Rattle.std.proofs.lemmas.List.{at_drop_more}
use Rattle.esc_manifest.specs.declared.row.MRow.{MRow}
use Rattle.esc_manifest.specs.ManifestRows.{row_at, no_row}
use Rattle.esc_store.specs.StoreState.{with_adopted}
use Rattle.esc_store.specs.StandingLaws.{goes_then, part_was}
use Rattle.esc_events.specs.Amended.{with_all_adopted}
use Rattle.esc_desk.proofs.changes.adopt_rows.Goals as goal

pub loop-row-preserved : goal.loop-row-preserved
loop-row-preserved g c =
    let now = c.loop-row.invariant in
    let i = c.loop-row.row-index in
    let n = c.args.rows.now in
    let r = get_or c.args.adopted.now i 0 in
    let left = drop (i + 1) c.args.adopted.now in
    let d = c.in-Some.listed.now.digest in
    let same : d ≡ (row_at n r).digest = ap (λ (m : MRow). m.digest) (c.in-Some.ensures.lookup.3.1 no_row) in
    record {
      goes_on = goes_then now.goes_on c.adopt.ensures.part.goes_on;
      count = c.adopt.ensures.part.count ∙ now.count;
      makes = λ clean before k rest.
          let so_far = now.makes (part_was c.adopt.ensures.part clean) before k rest in
          let made = so_far.0 in (
            with_adopted made r d (made.parked d),
            c.in_ok-adopt.ensures.part.makes clean before made so_far.1,
            ap (λ (x : List ℕ). with_all_adopted n (with_adopted made r x (made.parked x)) left) same
                ∙ sym (at_drop_more (with_all_adopted n made) c.args.adopted.now i 0 c.loop-row-test.true)
                ∙ so_far.2,
          );
      holds = λ s h. c.in_ok-adopt.ensures.part.holds s (now.holds s h);
    }
