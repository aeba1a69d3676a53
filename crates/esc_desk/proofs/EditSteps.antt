-- The parts of a change, one after another.
use Rattle.std.proofs.Common.{◌≡◌, inl, inr, ℤ, Option, Some, None, refl, ◌∙◌}
use Rattle.sqlite_trees.specs.declared.store.Store.{Ghosts}
use Rattle.esc_store.specs.declared.fault.StoreFault.{StoreFault}
use Rattle.esc_store.specs.declared.store.Store.{Store}
use Rattle.esc_store.specs.StoreState.{StoreState, with_listed}
use Rattle.esc_store.specs.ReplyValue.{ReceiptValue}
use Rattle.esc_store.specs.Representation.{ChangeOf, IsAsBefore, IsHonest, HasMadeBooks, Represents, StoreLeavesNoMore}
use Rattle.esc_events.specs.Amended.{with_all_adopted}
use Rattle.esc_desk.specs.declared.edit.Edit.{Edit}
use Rattle.esc_desk.specs.declared.edit.Listing.{Listing}
use Rattle.esc_desk.specs.declared.edit.Storing.{Storing}
use Rattle.esc_desk.specs.declared.edit.Storing.TheVariants.{Nothing, Hold, Park}
use Rattle.esc_desk.specs.Edits.{receipted, stored, listed_more, timed, books_edited, StaysPut}
use Rattle.esc_desk.specs.Causes.{IsEditFault, IsFillFault}
use Rattle.esc_desk.proofs.AmendingKept.{adopted_stay, dropped_stay}
use Rattle.esc_desk.proofs.CrashSteps.{adds_then}

module _ {S : Type 0} (g : Ghosts S) where
  -- why a change was refused, of which nothing is committed, is why the edit is
  pub edit_fault : (old new : Store S) (a b : ChangeOf S) (r : Option ReceiptValue) (f : StoreFault)
      → (IsHonest g new → IsHonest g b.store.now)
      → ((k : StoreState) → Represents g old k → HasMadeBooks g a k k)
      → StoreLeavesNoMore g old new → IsFillFault g r a b f → IsEditFault g r old new f
  edit_fault old new a b None f was rest leaves fault = fault
  edit_fault old new a b (Some r) f was rest leaves (inl is) = inl is
  edit_fault old new a b (Some r) f was rest leaves (inr full) = inr (
    full.0,
    record { full = λ clean k stood. full.1 (was clean) k k (rest k stood); leaves = leaves },
  )

  -- the same where the store was as before first
  pub edit_fault_then : (old mid new : Store S) (r : Option ReceiptValue) (f : StoreFault)
      → IsAsBefore g old mid → IsEditFault g r mid new f → IsEditFault g r old new f
  edit_fault_then old mid new None f same fault = fault
  edit_fault_then old mid new (Some r) f same (inl is) = inl is
  edit_fault_then old mid new (Some r) f same (inr none) =
      inr (
        none.0,
        record {
          full = λ clean k stood. none.1.full clean k (same.stands k stood);
          leaves = adds_then same.survives none.1.leaves;
        },
      )

-- ---- the chain and its tables stay where the books are edited

stays_receipted : (r : Option ReceiptValue) (k : StoreState) → StaysPut k (receipted r k)
stays_receipted None k = record { steps = refl; registry = refl }
stays_receipted (Some r) k = record { steps = refl; registry = refl }

stays_stored : (b : Storing) (k : StoreState) → StaysPut k (stored b k)
stays_stored Nothing k = record { steps = refl; registry = refl }
stays_stored (Hold row body d) k = record { steps = refl; registry = refl }
stays_stored (Park digest body) k = record { steps = refl; registry = refl }

stays_timed : (t : Option (Option ℤ)) (k : StoreState) → StaysPut k (timed t k)
stays_timed None k = record { steps = refl; registry = refl }
stays_timed (Some t) k = record { steps = refl; registry = refl }

stays_listed : (l : Option Listing) (k : StoreState) → StaysPut k (listed_more l k)
stays_listed None k = record { steps = refl; registry = refl }
stays_listed (Some l) k =
    let n = l.union in
    let first = with_all_adopted n (with_listed k n) l.judged.adopted.items in
    record {
      steps = (dropped_stay n first l.judged.dropped.items).3
          ∙ (adopted_stay n (with_listed k n) l.judged.adopted.items).3;
      registry = (dropped_stay n first l.judged.dropped.items).4
          ∙ (adopted_stay n (with_listed k n) l.judged.adopted.items).4;
    }

-- a moment stays clear of the bodies
pub timed_bodies : (t : Option (Option ℤ)) (k : StoreState) → (timed t k).bodies ≡ k.bodies
timed_bodies None k = refl
timed_bodies (Some t) k = refl

-- what stays by two parts of a change
pub stays_then : {a b c : StoreState} → StaysPut a b → StaysPut b c → StaysPut a c
stays_then p q = record { steps = q.steps ∙ p.steps; registry = q.registry ∙ p.registry }

-- an edit of the books leaves the tables
pub stays_put : (edit : Edit) (k : StoreState) → StaysPut k (books_edited edit k)
stays_put edit k =
    let a = receipted edit.receipt k in
    let b = listed_more edit.listing a in
    let c = stored edit.body b in
    stays_then (stays_then (stays_then (stays_receipted edit.receipt k) (stays_listed edit.listing a))
    (stays_stored edit.body b)) (stays_timed edit.moment c)
