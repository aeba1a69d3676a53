-- Reads of a store's tables.
use Rattle.esc_store.proofs.Common.{survives_same, ◌≡◌, Some, refl, sym, subst, ◌∙◌, IsTrue, Result, Ok}
use Rattle.esc_store.proofs.Common.{Err, Ghosts, Held, state, HasCleanDisk, Database, Content}
use Rattle.esc_store.proofs.Common.{content_in, Tells, IsRead, Remembered, IsRemembered, StoreFault}
use Rattle.esc_store.proofs.Common.{Store, IsSettled}
use Rattle.esc_store.proofs.Common.{StoreState, IsStoreDatabase, IsAtRestIfClean, IsStanding}
use Rattle.esc_store.proofs.Common.{IsStoreRead, IsLook, IsTold, IsHonest, was_clean, Settles, IfOk}
use Rattle.esc_store.proofs.Common.{ConnState as State}
use Rattle.std.proofs.Common.{rules, ap, List, Option, None, option_map, IfSome}
use Rattle.std.specs.Global.{Vec}
use Rattle.std.proofs.lemmas.Option.{none-some, same_Some}
use Rattle.esc_store.specs.Representation.{IsAsBefore, Represents}
use Rattle.esc_store.proofs.Ends.{still_stands, unchanged_settled, tables_of}
use Rattle.esc_store.proofs.Parts.{Settled, look_is}

settled : {X E : Type 0} {old new : State}
    {Says : Database → X → Type 0} {k : StoreState} {r : Result X E} → IsLook old new Says r
    → IsAtRestIfClean old k → HasCleanDisk new → IsTrue new.is_open → IsSettled new
settled {r = Ok x} look rests clean up = unchanged_settled
    (look.said clean).1 (rests (was_clean look.survives clean) ((look.kept clean).was_open up))
settled {r = Err e} look rests clean up = look.failed clean

-- a read of a store
pub read_here : {S X D E : Type 0} {g : Ghosts S} {old new : Store S}
    {conn : Held S} {outcome : Result X D} {result : Result X E} {P : Content → X → Type 0}
    → new.manifest ≡ old.manifest → new.writes ≡ old.writes → new.remembered ≡ old.remembered
    → Settles g (record old { conn = conn }) new outcome result
    → IsRead (state g old.conn) (state g conn) (Tells P) outcome → IsStoreRead g old new P result
read_here manifest writes same settled read =
    record { manifest = manifest; writes = writes; remembered = same; look = look_is settled read }

-- a read of a settled connection is one of its store
pub read_settled : {S X D : Type 0} {g : Ghosts S} {old new : Store S}
    {conn : Held S} {outcome : Result X D} {result : Result X StoreFault} {P : Content → X → Type 0}
    → Settled g (record old { conn = conn }) new outcome result
    → IsRead (state g old.conn) (state g conn) (Tells P) outcome → IsStoreRead g old new P result
read_settled settle = read_here settle.manifest settle.writes settle.remembered settle.settled

module _ {S X E : Type 0} {g : Ghosts S} {old new : Store S} {P : Content → X → Type 0} where
  pub as_before : {r : Result X E} → IsStoreRead g old new P r → IsAsBefore g old new
  unfolding Represents
  as_before it =
      let stands =
      λ (k : StoreState) (was : IsStanding (state g old.conn) old.manifest old.remembered k).
      still_stands it.look.survives it.look.kept (settled it.look was.rests) (it.manifest
      ∙ was.listed) (λ clean up. (was.rests clean up).kept) it.remembered was.remembered in
      search rules

  pub told_of : {r : Result X E} → IsStoreRead g old new P r
      → IsHonest g new → (k : StoreState) → Represents g old k → IfOk r (λ x. IsTold k (λ c. P c x))
  unfolding Represents
  told_of {r = Ok x} it honest k stands =
      let s = it.look.said honest in
      let was = stands.rests (was_clean it.look.survives honest) s.1.0.was_open in
      let kept = subst (λ db. IsStoreDatabase db k) (sym was.same) was.kept in
      record {
        content = content_in (state g old.conn).now.trees;
        ordered = kept.kept.tables.ordered;
        books = kept.kept.books;
        registry = kept.kept.registry;
        says = s.0 _ (tables_of kept);
      }
  told_of {r = Err e} it honest k stands = tt

-- what is remembered after a read, and is so of what the store keeps
pub remembering : {S : Type 0} {g : Ghosts S} {old new : Store S} (it : Remembered) → IsAsBefore g old new
    → (IsHonest g new → (k : StoreState) → Represents g old k → IsRemembered new.remembered k
    → IsRemembered it k) → IsAsBefore g old (record new { remembered = it })
unfolding Represents
remembering it same so = record {
  manifest = same.manifest;
  writes = same.writes;
  survives = same.survives;
  stands = λ k was. let now = same.stands k was in record {
    listed = now.listed;
    rests = now.rests;
    remembered = λ clean. so clean k was (now.remembered clean);
  };
}

-- a copy of what is remembered is so, too
abbrev items_of : {X : Type 0} → Option (Vec X) → Option (List X)
items_of {X} o = option_map (λ (v : Vec X). v.items) o

-- what is so of a list is so of its copy
pub of_copy : {X : Type 0} (P : List X → Type 0) (kept copy : Option (Vec X)) (x : Vec X)
    → option_map (λ (v : Vec X). v.items) copy ≡ option_map (λ (v : Vec X). v.items) kept
    → copy ≡ Some x → IfSome kept (λ (v : Vec X). P v.items) → P x.items
of_copy P None copy x same is so = absurd (none-some _ (sym same ∙ ap items_of is))
of_copy P (Some v) copy x same is so = subst P (same_Some _ _ (sym same ∙ ap items_of is)) so

-- nothing was read
pub unread : {S : Type 0} {g : Ghosts S} {s : Store S} → IsAsBefore g s s
unread = record { manifest = refl; writes = refl; survives = survives_same; stands = λ k h. h }
