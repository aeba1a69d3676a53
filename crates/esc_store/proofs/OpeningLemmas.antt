-- Databases that are found to be a store, or none.
use Rattle.esc_store.proofs.Common.{◌≡◌, Bool, true, false, true≢false, not, List, [], ◌∷◌, slice_get}
use Rattle.esc_store.proofs.Common.{Option, Some, None, option_map, option_eq, int_eq, refl, sym, ap}
use Rattle.esc_store.proofs.Common.{subst, ◌∙◌, arith, IsTrue, ℤ, Row, column, Trees, Database}
use Rattle.esc_store.proofs.Common.{HasCleanDisk, Survives}
use Rattle.esc_store.proofs.Common.{IsUnchanged, MRow, info_tree, Content, TellsVersion, StoreState}
use Rattle.esc_store.proofs.Common.{IsStoreDatabase, nothing_read, IsSettled, IsStore, IsFirstDatabase}
use Rattle.esc_store.proofs.Common.{IsStanding, IsAtRestIfClean, was_clean, ConnState as State}
use Rattle.std.proofs.lemmas.Bool.Decides.{Decides-int_eq}
use Rattle.std.proofs.Common.{rules}
use Rattle.sqlite_value.specs.declared.value.Value.TheVariants.{Int}
use Rattle.esc_sql.specs.Schema.{IsOfSomeVersion}
use Rattle.esc_store.specs.FirstVersion.{IsFirstAtRest, IsFirstStore, IsOfFirstVersion, SeesFirst, LeavesFirstOr}
use Rattle.esc_store.specs.StoreTables.{IsOfVersion}
use Rattle.esc_store.proofs.Ends.{none_remembered, still_stands, unchanged_settled}
use Rattle.std.proofs.Common.{inl, inr, Result, Err, IfErr}
use Rattle.sqlite_trees.specs.declared.store.Store.{Ghosts}
use Rattle.sqlite.specs.Held.{Held, state}
use Rattle.esc_store.specs.Representation.{LeavesOr}

-- a database whose last commit is a store of a version has its tables
pub tables_refused : (Has : Trees → Content → Type 0) (content : Trees → Content)
    {Holds : Content → Type 0} {Up : Type 0} {now committed : Database} {has : Bool}
    → (Up → (c : Content) → Has now.trees c → IsTrue has × Holds c)
    → now ≡ committed → has ≡ false → Up → Has committed.trees (content committed.trees) → ⊥
tables_refused Has content {now = now} found same lacks up stored =
    let yes = (found up (content now.trees)
    (subst (λ (db : Database). Has db.trees (content db.trees)) (sym same) stored)).0 in cc

-- a version that is another one
pub differ : {n : ℤ} (v : Option ℤ)
    → true ≡ not (option_eq int_eq v (Some n)) → option_map Int v ≡ Some (Int n) → ⊥
differ None other is = let no : ⊥ = cc in no
differ {n} (Some m) other is = let e : m ≡ n = cc in true≢false (rw ((Decides-int_eq m n).1 e) at other)

-- and the version
pub version_refused : (version : Option ℤ) {n : ℤ} {row : Row} {now committed : Database}
    → now ≡ committed → TellsVersion now version
    → IsOfSomeVersion now.schema → committed.trees info_tree ≡ row ∷ [] → column row 2 ≡ Int n
    → true ≡ not (option_eq int_eq version (Some n)) → ⊥
version_refused version {n} {row} {now} same tells some info is other =
    differ version other (tells some (rw here (omega arith)) ∙ (ap (λ (rows : List Row). option_map
    (λ (r : Row). column r 2) (slice_get rows 0)) here ∙ ap Some is)) where
      here : now.trees info_tree ≡ row ∷ []
      here = ap (λ (db : Database). db.trees info_tree) same ∙ info

-- what a call that asks whether no transaction is on makes known where none is
pub at_rest : {b on : Bool} {P : Type 0} → b ≡ not on → (IsTrue b → P) → IsTrue b → (on ≡ false) × P
at_rest value settled t = (grind arith, settled t)

-- what was read is what the store was
pub opened : {old new : State} {m : List MRow} {k : StoreState}
    → Survives old new (λ trees. ⊥) → IsUnchanged old new → (IsStoreDatabase old.now k → m ≡ k.listed)
    → IsAtRestIfClean old k → HasCleanDisk new → IsStanding new m nothing_read k
opened {k = k} survives unchanged told rests clean =
    let was = rests (was_clean survives clean) unchanged.0.was_open in
    still_stands {a = nothing_read} survives (λ _. record {
      was_open = λ _. unchanged.0.was_open;
      committed = λ _. unchanged.0.committed_is;
    }) (λ _ _. unchanged_settled unchanged was)
    (told (subst (λ db. IsStoreDatabase db k) (sym was.same) was.kept))
    (λ clean up. (rests clean up).kept) refl (λ _. none_remembered k)

-- the store that the last commit is
pub found : {old new : State} {m : List MRow} {k : StoreState}
    → Survives old new (λ trees. ⊥) → IsUnchanged old new × IsOfVersion old.now
    → IsSettled old → (IsStoreDatabase old.now k → m ≡ k.listed)
    → IsStore old.committed.trees k → HasCleanDisk new → IsStanding new m nothing_read k
unfolding IsStore
found survives version settled told stored =
    opened survives version.0 told (λ clean up. let same = settled.1 up in search rules)

-- ---- stores of version 1

-- what a connection sees of a version 1 store that is at rest, or committed
pub sees_rest : (s : State) {k : StoreState}
    → (HasCleanDisk s → IsTrue s.is_open → IsFirstAtRest s k) → SeesFirst s k
sees_rest s rests clean up = let it = rests clean up in rw it.same it.kept.kept

-- a settled store shows what was committed
pub sees_committed : (s : State) {k : StoreState} → IsSettled s → IsFirstStore s.committed.trees k → SeesFirst s k
unfolding IsFirstStore
sees_committed s settled stored clean up = rw (settled.1 up) stored

-- with its schema, once that was found
pub tested : {old mid : State} {k : StoreState}
    → Survives old mid (λ _. ⊥) → (HasCleanDisk mid → IsUnchanged old mid × IsOfFirstVersion old.now)
    → SeesFirst old k → HasCleanDisk mid → IsFirstDatabase mid.now k
tested survives version sees clean = let it = version clean in rw it.0.0.now_is
    (record { schema = it.1.schema; kept = sees (was_clean survives clean) it.0.0.was_open })

-- what a crash leaves of a store of version 1 that was just opened
pub first_or : {S : Type 0} (g : Ghosts S) → ((s : S) (trees : Trees) → IsTrue (g.view s).is_open
    → g.recovers s trees → trees ≡ (g.view s).committed) → (old new : Held S) (k : StoreState)
    → IsFirstStore (state g old).committed.trees k → LeavesOr g old new k → LeavesFirstOr g old new k
unfolding LeavesOr
first_or g settled old new k first survives = record {
  adds = survives;
  opened = λ opens clean trees may. elim (survives.crash clean trees may) [
    | inl was ↦ inl (subst (λ t. IsFirstStore t k) (sym (settled old.store trees opens.is_open was)) first)
    | inr made ↦ inr made
  ];
}

-- what holds of the error that a call passes on
pub if_err_is : {X E : Type 0} (r : Result X E) (f : E) (P : E → Type 0) → r ≡ Err f → P f → IfErr r P
if_err_is r f P is holds = subst (λ s. IfErr s P) (sym is) holds
