use Rattle.esc_store.proofs.Common.{◌∙◌, ◌∷◌, [], refl, sym, arith, drop_all, noted, with_object}
use Rattle.esc_store.proofs.Common.{HasMadeTables, was_clean, HasMadeTablesIn}
use Rattle.esc_store.proofs.Filled.{fills_more, fills_last, parts, follows_then, one_free, pending_rows}
use Rattle.esc_store.proofs.Filled.{pending_next, pending_last, follows_same}
use Rattle.esc_store.proofs.Registries.{record_found}
use Rattle.esc_store.proofs.filling.Change+S.fill_each.Goals as goal

pub loop-at-init : goal.loop-at-init
loop-at-init g c = record {
  follows = follows_same g.S.Store c.args.self.now;
  count = refl;
  filling = λ honest s es are can held. pending_rows are (record { now = s; held = held; can = can; leads = refl });
}

pub loop-at-preserved : goal.loop-at-preserved
unfolding HasMadeTablesIn
loop-at-preserved g c = record {
  follows = follows_then (follows_then (follows_then c.loop-at.invariant.follows
      c.find_before.ensures.follows) c.note_stored.ensures.follows) c.put_row.ensures.follows;
  count = c.put_row.ensures.count
      ∙ c.note_stored.ensures.count ∙ c.find_before.ensures.count ∙ c.loop-at.invariant.count;
  filling = λ honest s es are can held.
      let finding = was_clean c.note_stored.ensures.follows.goes_on.survives
      (was_clean c.put_row.ensures.follows.goes_on.survives honest) in
      pending_next c.args.rows.now c.loop-at-test.true c.index-rows-at.is (c.loop-at.invariant.filling
      (was_clean c.find_before.ensures.follows.goes_on.survives finding) s es are can held)
      (λ e rest same left. fills_more (HasMadeTables g.S.Store c.loop-at.self) (HasMadeTables
      g.S.Store c.put_row.new.self) _ _ _ (with_object e ∷ []) rest _ refl left (λ t held can.
      let (kinds, texts, bytes) = parts e _ same in
      let found = c.in_ok-before.ensures.found finding t (one_free c.args.targets t c.args.step e _ same can) held in
      c.in_ok-put_row.ensures.written (noted t c.args.step e.0 (t.content e.0)) e.0 e.1 kinds texts bytes
      (c.in_ok-note_stored.ensures.noted t e.0 (t.content e.0) kinds texts
      (sym (record_found t kinds texts refl found.0) ∙ sym c.as_deref.ensures.value)
      ((found.1 finding).registry.recorded e.0) found.1)));
}

pub returns-clause-filled : goal.returns-clause-filled
returns-clause-filled g c = λ honest s es are can held.
    fills_last (HasMadeTables g.S.Store c.loop-at.self)
    _ _ _ [] refl (pending_last (drop_all c.loop-at.at c.args.rows.now (omega arith))
    refl (c.loop-at.invariant.filling honest s es are can held))
