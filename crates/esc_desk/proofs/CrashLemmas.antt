-- What a crash leaves by the events that a store stands for, from one call to the next.
use Rattle.std.proofs.Common.{inl, inr, List, [], ◌∷◌, ◌++◌, Option, Some, None, Result, Ok, Err, ◌≡◌}
use Rattle.std.proofs.Common.{sym, subst, arith}
use Rattle.sha2.specs.Sha256.{sha256}
use Rattle.sqlite_trees.specs.declared.store.Store.{Ghosts}
use Rattle.sqlite_trees.specs.Tree.{Trees}
use Rattle.sqlite.specs.Held.{Held, state}
use Rattle.sqlite.specs.State.{HasCleanDisk, Survives}
use Rattle.esc_tables.specs.Reading.{reading}
use Rattle.esc_store.specs.declared.fault.StoreFault.{StoreFault}
use Rattle.esc_store.specs.declared.fault.StoreFault.TheVariants.{Failed, NoMemory, NotAStore, NoRoom, NoPlace}
use Rattle.esc_store.specs.declared.store.Store.{Store}
use Rattle.esc_store.specs.StoreState.{StoreState}
use Rattle.esc_store.specs.Faults.{IsFailed, IsFailure}
use Rattle.esc_store.specs.ReplyValue.{ReceiptValue}
use Rattle.esc_store.specs.Representation.{LeavesOnly, LeavesOr}
use Rattle.esc_events.specs.ArrivalValue.{ArrivalValue}
use Rattle.esc_events.specs.Events.{EventValue}
use Rattle.esc_events.specs.Events.EventValue.{arrived}
use Rattle.esc_events.specs.StateAfter.{IsStateAfter}
use Rattle.esc_desk.specs.Causes.{IsEditFault}
use Rattle.esc_desk.specs.Crashes.{IsStoreFor, IsStoreForOneOf, CrashLeaves, LeavesOnlyFor, LeavesMade}
use Rattle.esc_desk.specs.Crashes.{LeavesRefused, LeavesTaken, doubtful_with}
use Rattle.esc_desk.proofs.Likeness.{AddsNothing, still_stands, still_stands_with}

-- ---- an arrival that adds nothing

still_one : (trees : Trees) (e doubtful : List EventValue) (a : ArrivalValue) → AddsNothing e a
    → IsStoreForOneOf trees e doubtful → IsStoreForOneOf trees (e ++ arrived a ∷ []) doubtful
still_one trees e [] a none one = record {
  kept = one.kept;
  store = one.store;
  stands_for = still_stands e a one.kept none one.stands_for;
}
still_one trees e (x ∷ doubtful) a none (inl one) = inl (record {
  kept = one.kept;
  store = one.store;
  stands_for = still_stands_with e a one.kept none x one.stands_for;
})
still_one trees e (x ∷ doubtful) a none (inr more) = inr (still_one trees e doubtful a none more)

-- a store of the events is one of them or of others in doubt
one_at_least : (trees : Trees) (e doubtful : List EventValue)
    → IsStoreFor trees e → IsStoreForOneOf trees e doubtful
one_at_least trees e [] one = one
one_at_least trees e (x ∷ doubtful) one = inr (one_at_least trees e doubtful one)

-- ---- an event that was refused

-- what a crash leaves is still one of what it may leave, with one more event in doubt
pub one_with : (trees : Trees) (e doubtful : List EventValue) (x : EventValue) (f : StoreFault)
    → IsStoreForOneOf trees e doubtful → IsStoreForOneOf trees e (doubtful_with f x doubtful)
one_with trees e doubtful x (Failed cause) one = inr one
one_with trees e doubtful x NoMemory one = inr one
one_with trees e doubtful x NotAStore one = inr one
one_with trees e doubtful x NoRoom one = one
one_with trees e doubtful x NoPlace one = one

-- a store with the event is one of those in doubt, where the store failed
one_failed : (trees : Trees) (e doubtful : List EventValue) (x : EventValue) (f : StoreFault) → IsFailed f
    → IsStoreFor trees (e ++ x ∷ []) → IsStoreForOneOf trees e (doubtful_with f x doubtful)
one_failed trees e doubtful x (Failed cause) is one = inl one
one_failed trees e doubtful x NoMemory is one = absurd is
one_failed trees e doubtful x NotAStore is one = absurd is
one_failed trees e doubtful x NoRoom is one = absurd is
one_failed trees e doubtful x NoPlace is one = absurd is

one_more : (trees : Trees) (e doubtful : List EventValue) (x : EventValue) (f : StoreFault) → IsFailure
    f → IsStoreFor trees (e ++ x ∷ []) → IsStoreForOneOf trees e (doubtful_with f x doubtful)
one_more trees e doubtful x f (inl is) one = one_failed trees e doubtful x f is one
one_more trees e doubtful x f (inr is) one =
    subst (λ (q : StoreFault). IsStoreForOneOf trees e (doubtful_with q x doubtful)) (sym is) (inl one)

-- ---- what a crash leaves after a call

module _ {S : Type 0} (g : Ghosts S) where
  module _ (old new : Held S) (e doubtful : List EventValue) (left : CrashLeaves g old e doubtful) where
    pub leaves_as : Survives (state g old) (state g new) (λ _. ⊥) → CrashLeaves g new e doubtful
    unfolding CrashLeaves
    leaves_as s clean trees may = elim (s.crash clean trees may)
        [ inl was ↦ left (omega (arith, s.clean, clean)) trees was | inr none ↦ absurd none ]

    pub leaves_nothing : {a : ArrivalValue} → AddsNothing e a → Survives (state g old)
        (state g new) (λ _. ⊥) → CrashLeaves g new (e ++ arrived a ∷ []) doubtful
    unfolding CrashLeaves
    leaves_nothing {a = a} none s clean trees may = still_one trees e doubtful a none (leaves_as s clean trees may)

    -- an event that was refused before anything was begun
    pub leaves_early : (x : EventValue) (f : StoreFault)
        → Survives (state g old) (state g new) (λ _. ⊥) → LeavesRefused g new e doubtful x f
    unfolding CrashLeaves
    leaves_early x f s clean trees may = one_with trees e doubtful x f (leaves_as s clean trees may)

    -- one that was refused by S1 or S2, where a crash may leave a store that keeps k
    leaves_refused : (x : EventValue) (f : StoreFault) {k : StoreState} → IsFailure f → IsStateAfter
        sha256 reading (e ++ x ∷ []) k → LeavesOr g old new k → LeavesRefused g new e doubtful x f
    unfolding CrashLeaves LeavesOr
    leaves_refused x f {k = k} cause stands s clean trees may = elim (s.crash clean trees may) [
      | inl was ↦ one_with trees e doubtful x f (left (omega (arith, s.clean, clean)) trees was)
      | inr store ↦ one_more trees e doubtful x f cause (record { kept = k; store = store; stands_for = stands })
    ]

  -- no event is in doubt, or any are
  pub leaves_only : (new : Held S) (e doubtful : List EventValue)
      → LeavesOnlyFor g new e → CrashLeaves g new e doubtful
  unfolding CrashLeaves LeavesOnlyFor
  leaves_only new e doubtful only clean trees may = one_at_least trees e doubtful (only clean trees may)

  -- where the disk is clean is enough
  pub if_clean : (conn : Held S) (e doubtful : List EventValue)
      → (HasCleanDisk (state g conn) → CrashLeaves g conn e doubtful) → CrashLeaves g conn e doubtful
  unfolding CrashLeaves
  if_clean conn e doubtful h clean = h clean clean

  -- the same of the result of a call
  pub refused_made : {X : Type 0} (new : Held S)
      (e doubtful : List EventValue) (x : EventValue) {result : Result X StoreFault} (f : StoreFault)
      → result ≡ Err f → LeavesRefused g new e doubtful x f → LeavesMade g new e doubtful x result
  refused_made new e doubtful x f is left = rw is left

  pub made_at : {X : Type 0} (new : Held S)
      (e doubtful : List EventValue) (x : EventValue) {result : Result X StoreFault} {v : X}
      → result ≡ Ok v → LeavesMade g new e doubtful x result → CrashLeaves g new (e ++ x ∷ []) []
  made_at {X} new e doubtful x is left = subst (λ (r : Result X StoreFault). LeavesMade g new e doubtful x r) is left

  pub refused_at : {X : Type 0} (new : Held S)
      (e doubtful : List EventValue) (x : EventValue) {result : Result X StoreFault} {f : StoreFault}
      → result ≡ Err f → LeavesMade g new e doubtful x result
      → LeavesRefused g new e doubtful x f
  refused_at {X} new e doubtful x is left =
      subst (λ (r : Result X StoreFault). LeavesMade g new e doubtful x r) is left

  pub refused_taken : {X : Type 0} (new : Held S)
      (e doubtful : List EventValue) (a : ArrivalValue) {result : Result X StoreFault} (f : StoreFault)
      → result ≡ Err f → LeavesRefused g new e doubtful (arrived a) f
      → LeavesTaken g new e doubtful a result
  refused_taken new e doubtful a f is left = rw is left

  -- an event whose edit was refused: where there was no room nothing was done
  pub leaves_unmade : (old new : Store S) (e doubtful : List EventValue)
      (x : EventValue) (r : Option ReceiptValue) (f : StoreFault) {k : StoreState}
      → CrashLeaves g old.conn e doubtful → IsEditFault g r old new f
      → (HasCleanDisk (state g new.conn) → IsStateAfter sha256 reading (e ++ x ∷ []) k
      × LeavesOr g old.conn new.conn k) → LeavesRefused g new.conn e doubtful x f
  leaves_unmade old new e doubtful x None f left cause made =
      if_clean new.conn e (doubtful_with f x doubtful) (λ clean. leaves_refused
      old.conn new.conn e doubtful left x f cause (made clean).0 (made clean).1)
  leaves_unmade old new e doubtful x (Some r) f left (inl cause) made =
      if_clean new.conn e (doubtful_with f x doubtful) (λ clean. leaves_refused
      old.conn new.conn e doubtful left x f cause (made clean).0 (made clean).1)
  leaves_unmade old new e doubtful x (Some r) f left (inr none) made =
      subst (λ (q : StoreFault). LeavesRefused g new.conn e doubtful x q)
      (sym none.0) (leaves_as old.conn new.conn e doubtful left none.1.leaves)

  -- ---- a store that was left alone
  pub leaves_for : (store : Store S) {k : StoreState} {e : List EventValue}
      → IsStateAfter sha256 reading e k → LeavesOnly g store k → LeavesOnlyFor g store.conn e
  unfolding LeavesOnly LeavesOnlyFor
  leaves_for store {k = k} stands left clean trees may =
      record { kept = k; store = left clean trees may; stands_for = stands }

  pub leaves_at : (store : Store S) {k : StoreState} {e : List EventValue}
      → IsStateAfter sha256 reading e k → LeavesOnly g store k → CrashLeaves g store.conn e []
  unfolding CrashLeaves LeavesOnlyFor
  leaves_at store stands left = leaves_for store stands left
