use Rattle.std.proofs.Common.{◌≡◌, ◌==◌, suc, cond, List}
use Rattle.std.specs.Vec.Iter.{into_iter_len}
use Rattle.esc_apply.specs.ObjectStreams.{Entry}
use Rattle.esc_store.specs.StoreState.{StoreState}
use Rattle.esc_desk.specs.Places.{kinds_left}
use Rattle.esc_desk.specs.Walking.{AreToCome}
use Rattle.esc_desk.proofs.pages.fill.Given as goal

-- what is to come is as it was
abbrev pub invariant-loop-kind : goal.invariant-loop-kind
invariant-loop-kind g l = record {
  follows : g.P.Paged.follows l.fn.store l.store;
  stands : (k : StoreState) → g.P.Paged.represents l.fn.store k → g.P.Paged.represents l.store k;
  left : l.pages.left ≡ l.fn.pages.left;
  come : g.P.Paged.is_honest l.store → (es : List Entry)
      → AreToCome g.P.Paged.represents l.fn.store l.fn.pages es
      → AreToCome g.P.Paged.represents l.store l.pages es;
}

-- each page that is empty ends a kind
abbrev pub decreases-loop-kind : goal.decreases-loop-kind
decreases-loop-kind g l = cond (into_iter_len l.pages.page == 0) (suc (kinds_left l.pages.kind)) 0
