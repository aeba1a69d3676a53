use Rattle.esc_store.specs.StoreState.{StoreState}
use Rattle.esc_store.specs.Representation.{Represents, IsHonest, IsAsBefore}
use Rattle.esc_desk.proofs.JudgedRows.{AreJudgedTo}
use Rattle.esc_desk.proofs.judging.judge_rows.Given as goal

-- the rows so far with those among the rows that are left are all of them
abbrev pub invariant-loop-row : goal.invariant-loop-row
invariant-loop-row g l = record {
  same : IsAsBefore g.S.Store l.fn.store l.store;
  judged : IsHonest g.S.Store l.store → (k : StoreState)
      → Represents g.S.Store l.fn.store k → AreJudgedTo l.rows k.parked l.from l.row l.judged;
}
