-- What follows of a store from one call to the next.
use Rattle.std.proofs.Common.{◌≡◌, List, IfSome, sym, subst}
use Rattle.sqlite_trees.specs.declared.store.Store.{Ghosts}
use Rattle.esc_store.specs.Representation.{IsAsBefore}
use Rattle.esc_desk.specs.declared.desk.Desk.{Desk}
use Rattle.esc_desk.specs.Calls.{IsUnchangedDesk}
use Rattle.esc_events.specs.Events.{EventValue}
use Rattle.esc_events.specs.Cache.{IsCacheOf}
use Rattle.esc_desk.specs.Reflection.{DeskReflects}

-- a desk whose store is as before, and that remembers what it did, reflects what it did
pub still_serves : {S : Type 0} (g : Ghosts S) (old new : Desk S) → IsAsBefore g old.store new.store
    → new.cache ≡ old.cache → (e : List EventValue) → DeskReflects g old e → DeskReflects g new e
still_serves g old new same cache e served =
    let serves = served.serves in
    record {
      serves = record {
        kept = serves.kept;
        stands = same.stands serves.kept serves.stands;
        stands_for = serves.stands_for;
      };
      remembers = subst (λ cache. IfSome cache (IsCacheOf serves.kept)) (sym cache) served.remembers;
    }

-- the same in one word
pub still_stays : {S : Type 0} (g : Ghosts S) (old new : Desk S)
    → IsAsBefore g old.store new.store → new.cache ≡ old.cache → IsUnchangedDesk g old new
still_stays g old new same cache = record { same = same; serves = still_serves g old new same cache }
