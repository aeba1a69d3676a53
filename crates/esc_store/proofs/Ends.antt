-- The beginning and the ends of a change.
use Rattle.esc_store.proofs.Common.{◌≡◌, inl, inr, true, false, true≢false, List, sym, ap, subst, ◌∙◌}
use Rattle.esc_store.proofs.Common.{IsTrue, Result, Ok, Err, OnErr, IsErr, cases_Bool, Trees, Database}
use Rattle.esc_store.proofs.Common.{HasCleanDisk, Survives, KeepsCommit, IsUnchanged, Shows}
use Rattle.esc_store.proofs.Common.{survives_weaker, survives_then, MRow}
use Rattle.esc_store.proofs.Common.{Content, HoldsContent, content_is, content_in, Remembered}
use Rattle.esc_store.proofs.Common.{IsRemembered, nothing_read, StoreState, IsBooks, IsRegistry}
use Rattle.esc_store.proofs.Common.{IsStoreDatabase, HoldsTables, IsAtRest, IsAtRestIfClean, IsStanding}
use Rattle.esc_store.proofs.Common.{IsBegun, IsMade, IsUnderWay, was_clean, IsSettled, IsStore}
use Rattle.esc_store.proofs.Common.{ConnState as State, State as Tables}
use Rattle.std.proofs.Common.{rules}
use Rattle.esc_sql.specs.Content.{AreStoreTrees}
use Rattle.esc_store.specs.StoreState.{with_registry}

-- ---- one call after another

-- what is so at an error
pub at_err : {X E : Type 0} (r : Result X E) (P : Type 0) → IsErr r → OnErr r P → P
at_err (Ok x) P bad h = let no : ⊥ = cc in absurd no
at_err (Err e) P bad h = h

-- what keeps the commit, call after call
pub keeps_then : (a b c : State) → KeepsCommit a b → KeepsCommit b c → KeepsCommit a c
keeps_then a b c p q = record {
  was_open = λ up. p.was_open (q.was_open up);
  committed = λ up. q.committed up ∙ p.committed (q.was_open up);
}

-- one of the two leaves nothing new after a crash
module _ {a b c : State} {C : Trees → Type 0} where
  pub survives_first : Survives a b C → Survives b c (λ _. ⊥) → Survives a c C
  survives_first = survives_then a b c C (λ _. ⊥) C (λ _ db is. is) (λ _ db none. absurd none)

  pub survives_last : Survives a b (λ _. ⊥) → Survives b c C → Survives a c C
  survives_last = survives_then a b c (λ _. ⊥) C C (λ _ db none. absurd none) (λ _ db is. is)

-- ---- databases

-- a store's database has its tables
pub tables_of : {db : Database} {k : StoreState} → IsStoreDatabase db k → HoldsTables db
tables_of it = record { schema_is = it.schema; store = it.kept.tables }

-- a database with the books and the registry of a state is its store
pub holds_store : (db : Database) (c : Content) (k : StoreState)
    → HoldsContent db c → IsBooks c k → IsRegistry c k.registry → IsStoreDatabase db k
holds_store db c k holds books registry =
    let e : c ≡ content_in db.trees = sym (content_is db.trees c holds.store.rows) in
    record {
      schema = holds.schema_is;
      kept = record {
        tables = subst (AreStoreTrees db.trees) e holds.store;
        books = subst
            (λ x. IsBooks x k) e books;
        registry = subst (λ x. IsRegistry x k.registry) e registry;
      };
    }

-- what a change holds is a store
pub whole : {s : State} {m rows : List MRow} {before k : StoreState} {tables : Tables}
    → IsMade s m rows before (with_registry k tables)
    → (HasCleanDisk s → IsUnderWay s k.registry) → HasCleanDisk s → IsStoreDatabase s.now k
whole made goes clean = let it = goes clean in let books = made.books clean it.in_transaction in search rules

-- ---- the beginning

module _ {old new : State} {m : List MRow} {it : Remembered} {k : StoreState} (survives : Survives old new (λ _. ⊥))
    (shown : HasCleanDisk new → Shows old new old.now old.committed true) (stands : IsStanding old m it k) where
  rested : HasCleanDisk new → IsAtRest old k
  rested clean = stands.rests (was_clean survives clean) (shown clean).was_open

  seen : HasCleanDisk new → IsStoreDatabase new.now k
  seen clean = subst (λ db. IsStoreDatabase db k)
      (sym ((shown clean).now_is ∙ (rested clean).same)) (rested clean).kept

  pub made : IsMade new m m k k
  made = record {
    begun = record {
      listed = stands.listed;
      on = λ clean mode. (
        (shown clean).is_open,
        subst (λ db. IsStoreDatabase db k)
            (sym (shown clean).committed_is) (rested clean).kept,
        tables_of (seen clean),
      );
      off = λ clean mode. absurd (true≢false (sym (shown clean).mode ∙ mode));
    };
    listed = stands.listed;
    books = λ clean on. (seen clean).kept.books;
  }

  pub under_way : HasCleanDisk new → IsUnderWay new k.registry
  under_way clean = record {
    is_open = (shown clean).is_open;
    in_transaction = (shown clean).mode;
    tables_are = tables_of (seen clean);
    registry = (seen clean).kept.registry;
  }

-- ---- the ends

-- nothing is remembered of any store
pub none_remembered : (k : StoreState) → IsRemembered nothing_read k
none_remembered k = record { told = tt; unlisted = tt; chain = tt; counts = tt }

-- nothing was committed and no transaction is on: the store stands for what it stood for
pub still_stands : {old new : State}
    {m : List MRow} {a b : Remembered} {k : StoreState} {C : Trees → Type 0} → Survives old new C
    → (HasCleanDisk new → KeepsCommit old new) → (HasCleanDisk new → IsTrue new.is_open → IsSettled new)
    → m ≡ k.listed → (HasCleanDisk old → IsTrue old.is_open → IsStoreDatabase old.committed k)
    → b ≡ a → (HasCleanDisk old → IsRemembered a k) → IsStanding new m b k
still_stands {k = k} survives kept settled listed held same so = record {
  listed = listed;
  rests = λ clean up. let rest = settled clean up in
      let store = subst (λ db. IsStoreDatabase db k) (sym ((kept clean).committed up))
      (held (was_clean survives clean) ((kept clean).was_open up)) in search rules;
  remembered = λ clean. subst (λ it. IsRemembered it k) (sym same) (so (was_clean survives clean));
}

-- nothing has changed of a store at rest
pub unchanged_settled : {old new : State} {k : StoreState} → IsUnchanged old new → IsAtRest old k → IsSettled new
unchanged_settled seen was =
    (seen.0.mode ∙ was.autocommit, λ _. seen.0.now_is ∙ (was.same ∙ sym seen.0.committed_is))

-- a store that was made within a transaction, and is committed
stored : {db : Database} {k : StoreState} → IsStoreDatabase db k → IsStore db.trees k
unfolding IsStore
stored it = it.kept

module _ {old new : State} {k : StoreState} (built : HasCleanDisk old → IsStoreDatabase old.now k) where
  pub crash : Survives old new (λ trees. trees ≡ old.now.trees) → Survives old new (λ trees. IsStore trees k)
  crash survives = survives_weaker old new _ _ (λ clean trees is. subst (λ t. IsStore t k)
      (sym is) (stored (built (was_clean survives clean)))) survives

  module _ {C : Trees → Type 0} (survives : Survives old new C)
      (shown : HasCleanDisk new → Shows old new old.now old.now false) where
    pub committed : IsAtRestIfClean new k
    committed clean up = let sh = shown clean in let store = built (was_clean survives clean) in search rules

    pub left : (IsTrue new.is_open
        → (trees : Trees) → new.may_leave trees → trees ≡ new.committed.trees)
        → HasCleanDisk new → (trees : Trees) → new.may_leave trees → IsStore trees k
    left only clean trees may = subst (λ t. IsStore t k) (sym (only (shown clean).is_open trees may
        ∙ ap (λ (db : Database). db.trees) (shown clean).committed_is))
        (stored (built (was_clean survives clean)))

-- what is committed while a change is on
pub begun_committed : (s : State) (m : List MRow) (k : StoreState)
    → IsBegun s m k → HasCleanDisk s → IsTrue s.is_open → IsStoreDatabase s.committed k
begun_committed s m k begun clean up = elim (cases_Bool s.in_transaction)
    [ inl on ↦ (begun.on clean on).1 | inr off ↦ (begun.off clean off up).0 ]
