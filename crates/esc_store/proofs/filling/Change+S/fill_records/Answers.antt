use Rattle.esc_store.proofs.Common.{◌∙◌, [], refl, on_ok_weaker, HasMadeTables, was_clean}
use Rattle.esc_store.proofs.Filled.{fills_last, follows_then, filling_all, pending_none, pending_more}
use Rattle.esc_store.proofs.Filled.{pending_last, follows_same}
use Rattle.esc_store.proofs.filling.Change+S.fill_records.Goals as goal

pub loop-key-init : goal.loop-key-init
loop-key-init g c = record {
  follows = follows_same g.S.Store c.args.self.now;
  count = refl;
  filling = λ honest s can held. pending_none c.new-rows.ensures.items
      (c.into_iter-key-iterator.ensures.into_iter_gives ∙ c.iter-key-items.ensures.rest)
      (record { now = s; held = held; can = can; leads = refl });
}

pub loop-key-preserved-then-len-eq-ROWS_AT_ONCE : goal.loop-key-preserved-then-len-eq-ROWS_AT_ONCE
loop-key-preserved-then-len-eq-ROWS_AT_ONCE g c = record {
  follows = follows_then c.loop-key.invariant.follows c.fill_rows.ensures.follows;
  count = c.fill_rows.ensures.count ∙ c.loop-key.invariant.count;
  filling = λ honest s can held. filling_all (HasMadeTables g.S.Store c.loop-key.self)
      (HasMadeTables g.S.Store c.fill_rows.new.self) c.as_slice.ensures.value c.clear.ensures.items
      (pending_more _ _ c.in_ok-push.ensures.items
      c.in-Some.ensures.steps c.in_ok-new_row.ensures.row (c.loop-key.invariant.filling
      (was_clean c.fill_rows.ensures.follows.goes_on.survives honest) s can held))
      (c.in_ok-fill_rows.ensures.filled honest);
}

pub loop-key-preserved : goal.loop-key-preserved
loop-key-preserved g c = record {
  follows = c.loop-key.invariant.follows;
  count = c.loop-key.invariant.count;
  filling = λ honest s can held. pending_more _ _ c.in_ok-push.ensures.items c.in-Some.ensures.steps
      c.in_ok-new_row.ensures.row (c.loop-key.invariant.filling honest s can held);
}

pub returns-clause-filled : goal.returns-clause-filled
returns-clause-filled g c = on_ok_weaker c.fill_each.result (λ put honest s can held.
    fills_last (HasMadeTables g.S.Store c.fill_each.new.self)
    _ _ _ [] refl (pending_last {rows = []} refl c.in-None.ensures.steps.0
    (filling_all (HasMadeTables g.S.Store c.loop-key.self)
    (HasMadeTables g.S.Store c.fill_each.new.self) {rows = c.loop-key.rows.items}
    {left = []} c.as_slice-2.ensures.value refl (c.loop-key.invariant.filling
    (was_clean c.fill_each.ensures.follows.goes_on.survives honest) s can held) (put honest))))
    c.fill_each.ensures.filled
