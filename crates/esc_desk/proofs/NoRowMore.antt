-- An amendment that lists no row more changes nothing, whatever one event comes after it; and what a
-- crash leaves after an amendment.
use Rattle.std.proofs.Common.{◌≡◌, inl, inr, ℕ, ℤ, ◌-◌, List, [], ◌∷◌, ◌++◌, length, Option}
use Rattle.std.proofs.Common.{None, Result, Ok, refl, sym, ap, ap₂, ◌∙◌, append-nil, length-append}
use Rattle.std.proofs.Common.{arith}
use Rattle.std.proofs.lemmas.List.{nil_from_length}
use Rattle.sha2.specs.Sha256.{sha256}
use Rattle.sqlite_trees.specs.declared.store.Store.{Ghosts}
use Rattle.sqlite_trees.specs.Tree.{Trees}
use Rattle.sqlite.specs.Held.{Held}
use Rattle.esc_tables.specs.Reading.{reading}
use Rattle.esc_manifest.specs.declared.refusal.ManifestRefusal.{ManifestRefusal}
use Rattle.esc_manifest.specs.declared.row.MRow.{MRow}
use Rattle.esc_manifest.specs.Extension.{new_rows, extended}
use Rattle.esc_manifest.specs.Manifest.{manifest_of}
use Rattle.esc_store.specs.declared.fault.StoreFault.{StoreFault}
use Rattle.esc_store.specs.declared.store.Store.{Store}
use Rattle.esc_store.specs.StoreState.{StoreState}
use Rattle.esc_store.specs.Representation.{Represents}
use Rattle.esc_events.specs.Events.{EventValue, Coming, union_after, union, comings_after, comings}
use Rattle.esc_events.specs.Events.{moment_after, last_moment}
use Rattle.esc_events.specs.Events.EventValue.{listed}
use Rattle.esc_events.specs.StateAfter.{IsStateAfter}
use Rattle.esc_events.specs.Works.{IsWorkOf, no_work}
use Rattle.esc_desk.proofs.AmendedBooks.{books_as}
use Rattle.esc_desk.proofs.EventLemmas.{union_on, comings_on, moment_on, union-listed, comings-listed, moment-listed}
use Rattle.esc_desk.proofs.Moving.{stands_still, no_work_of}
use Rattle.esc_desk.specs.Asked.{rows_read, amendment_of}
use Rattle.esc_desk.specs.Crashes.{IsStoreFor, IsStoreForOneOf, CrashLeaves, doubtful_with}
use Rattle.esc_desk.proofs.CrashLemmas.{one_with}

-- ---- two lists of events with the same rows, arrivals and moment

-- two lists of events stand for the same
pub record AreAlike (e f : List EventValue) : Type 0 where
  pub rows : union f ≡ union e
  pub came : comings f ≡ comings e
  pub moment : last_moment f ≡ last_moment e

-- a store that stands for one of them stands for the other
pub stands_alike : {e f : List EventValue} {k : StoreState}
    → AreAlike e f → IsStateAfter sha256 reading e k → IsStateAfter sha256 reading f k
stands_alike {e} {f} {k} same stood =
    stands_still e f k k stood (books_as e f k k.moment
    same.rows same.came (stood.books.moment ∙ sym same.moment) stood.books) refl refl refl refl refl

-- with one more event after both
alike_with : {e f : List EventValue} → AreAlike e f → (x : EventValue) → AreAlike (e ++ x ∷ []) (f ++ x ∷ [])
alike_with {e} {f} same x = record {
  rows = union_on [] f (x ∷ [])
      ∙ ap (λ (m : List MRow). union_after m (x ∷ [])) same.rows ∙ sym (union_on [] e (x ∷ []));
  came = comings_on [] f (x ∷ []) ∙ ap₂ (λ (l : List Coming) (m : List MRow). l
      ++ comings_after m (x ∷ [])) same.came same.rows ∙ sym (comings_on [] e (x ∷ []));
  moment = moment_on None f (x ∷ [])
      ∙ ap (λ (t : Option ℤ). moment_after t (x ∷ [])) same.moment ∙ sym (moment_on None e (x ∷ []));
}

store_alike : {trees : Trees} {e f : List EventValue} → AreAlike e f → IsStoreFor trees e → IsStoreFor trees f
store_alike same one = record { kept = one.kept; store = one.store; stands_for = stands_alike same one.stands_for }

one_alike : (trees : Trees) {e f : List EventValue} (doubtful : List EventValue) → AreAlike e f
    → IsStoreForOneOf trees e doubtful → IsStoreForOneOf trees f doubtful
one_alike trees [] same one = store_alike same one
one_alike trees (x ∷ doubtful) same (inl one) = inl (store_alike (alike_with same x) one)
one_alike trees (x ∷ doubtful) same (inr more) = inr (one_alike trees doubtful same more)

-- ---- an amendment

-- how many rows are new
pub new_count : (m more : List MRow) → length (extended m more) - length m ≡ length (new_rows m more)
new_count m more = omega (arith, length-append m (new_rows m more))

module _ (e : List EventValue) (more : List MRow) (none : length (new_rows (union e) more) ≡ 0) where
  pub alike_none : AreAlike e (e ++ listed more ∷ [])
  alike_none = record {
    rows = union-listed e more ∙ ap (λ (xs : List MRow). union e ++ xs)
        (nil_from_length (new_rows (union e) more) none) ∙ append-nil (union e);
    came = comings-listed e more;
    moment = moment-listed e more;
  }

  pub stands_none : (k : StoreState)
      → IsStateAfter sha256 reading e k → IsStateAfter sha256 reading (e ++ listed more ∷ []) k
  stands_none k stood = stands_alike alike_none stood

  pub works_none : (k : StoreState) → IsStateAfter sha256 reading e k → IsWorkOf e (listed more) no_work
  works_none k stood = no_work_of e (listed more) k k stood (stands_none k stood) alike_none.rows refl

-- the event of a text that reads as these rows
pub amendment_is : (text : List ℕ) (rows : List MRow)
    → manifest_of text ≡ Ok rows → amendment_of text ≡ listed rows
amendment_is text rows read = ap (λ (r : Result (List MRow) (ManifestRefusal × ℕ)). listed (rows_read r)) read

-- ---- what a crash leaves

module _ {S : Type 0} (g : Ghosts S) where
  -- the rows of a store are those that it keeps
  pub rows_of_store : (store : Store S) (k : StoreState) → Represents g store k → store.manifest ≡ k.listed
  unfolding Represents
  rows_of_store store k stood = stood.listed

  -- no row more is listed
  pub leaves_alike : (conn : Held S) (e f doubtful : List EventValue)
      → AreAlike e f → CrashLeaves g conn e doubtful → CrashLeaves g conn f doubtful
  unfolding CrashLeaves
  leaves_alike conn e f doubtful same left clean trees may = one_alike trees doubtful same (left clean trees may)

  -- it was refused before anything was begun
  pub leaves_before : (conn : Held S) (e doubtful : List EventValue) (x : EventValue) (f : StoreFault)
      → CrashLeaves g conn e doubtful → CrashLeaves g conn e (doubtful_with f x doubtful)
  unfolding CrashLeaves
  leaves_before conn e doubtful x f left clean trees may = one_with trees e doubtful x f (left clean trees may)
