use Rattle.esc_store.proofs.Common.{◌≡◌, ◌∙◌, length, take, get_or, refl, ap, arith, take_more}
use Rattle.esc_store.proofs.Common.{take_all, length-take-le, no_row, with_listed, indexed_row}
use Rattle.esc_store.proofs.Common.{goes_then, listed_row}
use Rattle.esc_store.proofs.Manifests.{stored_get, listed_size}
use Rattle.esc_store.proofs.listing.Change+S.list_rows.Goals as goal

pub loop-at-preserved : goal.loop-at-preserved
loop-at-preserved g c = (
  goes_then c.loop-at.invariant.0 c.list_row.ensures.goes_on,
  c.list_row.ensures.listing ∙ c.loop-at.invariant.1,
  c.list_row.ensures.count ∙ c.loop-at.invariant.2,
  λ before k union e front rest.
      let at = c.loop-at.at in
      let size = listed_size c.args.rows.now union e in
      let there = stored_get c.args.rows.now union at c.index-rows-at.result e c.loop-at-test.true in
      let so_far = length-take-le at union (omega arith) in
      let next : listed_row c.index-rows-at.result ≡ indexed_row (length (take at union))
      (get_or union at no_row) = ap listed_row c.index-rows-at.is ∙ (there ∙ rw so_far refl) in
      rw (take_more union at no_row (omega arith))
      (c.in_ok-list_row.ensures.listed before (with_listed k (take at union))
      (get_or union at no_row) next (c.loop-at.invariant.3 before k union e front rest)),
  λ s h. c.in_ok-list_row.ensures.holds s (c.loop-at.invariant.4 s h),
)

pub returns-clause-listed : goal.returns-clause-listed
returns-clause-listed g c = λ before k union e front rest.
    let size = listed_size c.args.rows.now union e in
    rw (take_all c.loop-at.at union (let past = c.loop-at-test.false in omega arith))
    at (c.loop-at.invariant.3 before k union e front rest)
