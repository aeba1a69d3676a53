use Rattle.esc_store.proofs.Common.{◌∙◌, [], map, refl, arith, drop_all, Some, with_object}
use Rattle.esc_store.proofs.Common.{after_noting, written, HasMadeTables}
use Rattle.esc_store.proofs.Filled.{written_by-noted, returns_last, parts, follows_then, pending_rows}
use Rattle.esc_store.proofs.Filled.{pending_next, pending_last, follows_same}
use Rattle.esc_store.proofs.filling.Change+S.put_each.Goals as goal

pub loop-at-init : goal.loop-at-init
loop-at-init g c = record {
  follows = follows_same g.S.Store c.args.self.now;
  count = refl;
  writing = λ s step es are held. pending_rows are (record {
    now = after_noting s step es;
    held = held;
    leads = written_by-noted s step (map with_object es);
  });
}

pub loop-at-preserved : goal.loop-at-preserved
loop-at-preserved g c = record {
  follows = follows_then c.loop-at.invariant.follows c.put_row.ensures.follows;
  count = c.put_row.ensures.count ∙ c.loop-at.invariant.count;
  writing = λ s step es are held. pending_next c.args.rows.now c.loop-at-test.true
      c.index-rows-at.is (c.loop-at.invariant.writing s step es are held) (λ e es same left.
      let (kinds, texts, bytes) = parts e _ same in
      record {
        now = written left.now e.0 (Some e.1);
        held = c.in_ok-put_row.ensures.written
            left.now e.0 e.1 kinds texts bytes left.held;
        leads = left.leads;
      });
}

pub returns-clause-put : goal.returns-clause-put
returns-clause-put g c = λ s step es are held. returns_last (HasMadeTables g.S.Store c.loop-at.self)
    _ [] refl (pending_last (drop_all c.loop-at.at c.args.rows.now (omega arith))
    refl (c.loop-at.invariant.writing s step es are held))
