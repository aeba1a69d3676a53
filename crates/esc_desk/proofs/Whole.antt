-- A call that takes in an event is whole or not at all, by the calls that it makes.
use Rattle.std.proofs.Common.{◌≡◌, ◌+◌, ℕ, Option, None, Result, Ok, Err, IfSome, sym, ap, subst, ◌∙◌}
use Rattle.sqlite_trees.specs.declared.store.Store.{Ghosts}
use Rattle.esc_apply.specs.Registry.{saturated}
use Rattle.esc_apply.specs.declared.moves.Work.{Work}
use Rattle.esc_store.specs.StoreState.{StoreState}
use Rattle.esc_store.specs.Representation.{IsAsBefore, Represents}
use Rattle.esc_store.specs.StandingLaws.{was_honest}
use Rattle.esc_events.specs.Cache.{IsCacheOf}
use Rattle.esc_events.specs.declared.cache.Cache.{Cache}
use Rattle.esc_desk.specs.declared.desk.Desk.{Desk}
use Rattle.esc_desk.specs.Calls.{IsWhole, StillReflects, WasHonest, writes_of}

module _ {S : Type 0} (g : Ghosts S) where
  -- a desk whose store stands for what it stood for, and that remembers what it did or nothing, reflects what it did
  serves_still : (old new : Desk S)
      → ((k : StoreState) → Represents g old.store k → Represents g new.store k) → ((k : StoreState)
      → IfSome old.cache (IsCacheOf k) → IfSome new.cache (IsCacheOf k)) → StillReflects g old new
  serves_still old new stands remembers e served =
      let serves = served.serves in
      record {
        serves = record {
          kept = serves.kept;
          stands = stands serves.kept serves.stands;
          stands_for = serves.stands_for;
        };
        remembers = remembers serves.kept served.remembers;
      }

  pub forgets : (old new : Desk S)
      → IsAsBefore g old.store new.store → new.cache ≡ None → StillReflects g old new
  forgets old new same none = serves_still old new same.stands
      (λ k knows. subst (λ (cache : Option Cache). IfSome cache (IsCacheOf k)) (sym none) tt)

  -- a call that failed
  pub whole_err : (old new : Desk S) {X E : Type 0} {work : X → Work} {result : Result X E} (f : E)
      → result ≡ Err f → WasHonest g old new → writes_of new ≡ writes_of old
      → ((k : StoreState) → Represents g old.store k → Represents g new.store k)
      → new.cache ≡ old.cache → IsWhole g old new result work
  whole_err old new f is honest writes stands same = rw is (record {
    honest = honest;
    counted = tt;
    uncounted = writes;
    lost = serves_still old new stands
        (λ k knows. subst (λ (cache : Option Cache). IfSome cache (IsCacheOf k)) (sym same) knows);
  })

  -- one that failed before anything was begun
  pub whole_early : (old new : Desk S) {X E : Type 0} {work : X → Work} {result : Result X E} (f : E)
      → result ≡ Err f → IsAsBefore g old.store new.store → StillReflects g old new
      → IsWhole g old new result work
  whole_early old new f is same still =
      rw is (record { honest = was_honest same; counted = tt; uncounted = same.writes; lost = still })

  -- reads, and then a call that was whole
  module _ (old mid new : Desk S) (same : IsAsBefore g old.store mid.store)
      (still : StillReflects g old mid) {X Y E F : Type 0} {work : X → Work} {made : Y → Work} where
    pub whole_lost : {result : Result X E} (f : E) {h : F}
        → result ≡ Err f → IsWhole g mid new (Err h) made → IsWhole g old new result work
    whole_lost f is whole = rw is (record {
      honest = λ clean. was_honest same (whole.honest clean);
      counted = tt;
      uncounted = whole.uncounted ∙ same.writes;
      lost = λ e served. whole.lost e (still e served);
    })

    pub whole_made : {x : X} {y : Y} → work x ≡ made y
        → IsWhole g mid new {E = F} (Ok y) made → IsWhole g old new {E = E} (Ok x) work
    whole_made {x = x} {y = y} is whole = record {
      honest = λ clean. was_honest same (whole.honest clean);
      counted = whole.counted ∙ ap (λ (n : ℕ). saturated (n + (made y).writes)) same.writes
          ∙ ap (λ (w : Work). saturated (writes_of old + w.writes)) (sym is);
      uncounted = tt;
      lost = tt;
    }

  -- the same of another answer with the same work
  module _ {old new : Desk S} {X Y E F : Type 0} {work : X → Work} {made : Y → Work} {answer : Result Y F} where
    pub whole_as : {x : X} {y : Y} → answer ≡ Ok y
        → work x ≡ made y → IsWhole g old new answer made → IsWhole g old new {E = E} (Ok x) work
    whole_as {x = x} {y = y} is same whole =
        let at = subst (λ (r : Result Y F). IsWhole g old new r made) is whole in
        record {
          honest = at.honest;
          counted = at.counted ∙ ap (λ (w : Work). saturated (writes_of old + w.writes)) (sym same);
          uncounted = tt;
          lost = tt;
        }

    pub whole_failed : {f : E} {h : F}
        → answer ≡ Err h → IsWhole g old new answer made → IsWhole g old new (Err f) work
    whole_failed is whole =
        let at = subst (λ (r : Result Y F). IsWhole g old new r made) is whole in
        record { honest = at.honest; counted = tt; uncounted = at.uncounted; lost = at.lost }
