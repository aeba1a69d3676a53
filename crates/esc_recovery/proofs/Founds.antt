-- What files hold is what their store may leave, and what the next open finds.
use Rattle.std.proofs.Common.{◌≡◌, inl, inr, List, [], ◌∷◌, ◌++◌, IsTrue, Result, Ok, Err, IfOk}
use Rattle.std.proofs.Common.{MatchResult, refl, sym, ap, subst, subst₂, ◌∙◌, arith}
use Rattle.std.proofs.Math.Logic.{∥∥₁_elim, ∥∥₁_map}
use Rattle.std.specs.Result.{IsErrAnd}
use Rattle.sqlite_disk.specs.declared.Disk.{Ghosts}
use Rattle.sqlite_disk.specs.declared.Files.{Files}
use Rattle.sqlite_wal.specs.Files.{outcomes}
use Rattle.sqlite_wal.specs.Reads.{AreClean}
use Rattle.sqlite_wal.specs.Recovery.{Image}
use Rattle.sqlite_pool.proofs.StateLemmas.{clean_is, may_leave_is}
use Rattle.sqlite_trees.specs.Tree.{Trees}
use Rattle.sqlite_trees.specs.Props.{Trees-set}
use Rattle.sqlite_trees.specs.View.{IsClean, IsQuiet}
use Rattle.sqlite_trees.proofs.Doubt.{no_doubt}
use Rattle.sqlite_store.specs.declared.store.FileStore.{FileStore}
use Rattle.sqlite_store.specs.FileStore.{view, faults, recovers, is_shielded, files}
use Rattle.sqlite_trees.specs.declared.store.Store as store
use Rattle.sqlite.specs.Held.{Held, state, AreDatabases}
use Rattle.sqlite.specs.State.{HasCleanDisk, IsLive, Opens}
use Rattle.sqlite.specs.Files.{over_files, HoldsDatabase}
use Rattle.sqlite.specs.Closing.{IsCopied, HoldsAlone}
use Rattle.sqlite.proofs.Theorems.{opens_again}
use Rattle.esc_store.specs.StoreState.{StoreState}
use Rattle.esc_store.specs.FirstVersion.{IsOfFirstVersion}
use Rattle.esc_store.specs.StoreTables.{IsStore, IsOfVersion}
use Rattle.esc_store.specs.Representation.{HoldsKept, LeavesOr}
use Rattle.esc_store.specs.StandingLaws.{was_clean}
use Rattle.esc_sql.specs.Schema.{no_schema}
use Rattle.sqlite.specs.Effect.{Database}
use Rattle.sqlite_catalog.specs.Listing.{IsSound}
use Rattle.esc_recovery.specs.Blank.{LeavesBlankOr}
use Rattle.esc_events.specs.Events.{EventValue}
use Rattle.esc_desk.specs.declared.desk.Desk.{Desk}
use Rattle.esc_desk.specs.Calls.{DeskLeaves, IsHonestDesk}
use Rattle.esc_desk.specs.Reflection.{DeskReflects}
use Rattle.esc_desk.specs.Crashes.{CrashLeaves, IsStoreForOneOf, IsStoreFor}
use Rattle.esc_recovery.specs.Rest.{RestsFor}
use Rattle.esc_recovery.specs.FileImages.{Holds, HoldsStoreFor, HoldsOneOf, IsMigratedFrom, IsOneOf}
use Rattle.esc_recovery.specs.FileImages.{IsOpenedFrom, ServesOneOf}
use Rattle.esc_recovery.specs.Opened.{IsFirstStoreFor, IsMigratedOn, IsOpenedOn}

-- whatever a crash leaves of the files of a store is one of those that it may leave of the store
pub images_of : {D : Type 0} (g : Ghosts D) (conn : Held (FileStore D g))
    (it : FileStore D g) (e doubtful : List EventValue) (log db : D) → (log, db) ≡ files it
    → IsQuiet view faults recovers is_shielded conn.store it → (IsClean (view it)
    → IsTrue (view it).is_numbered) → (IsClean (view it) → AreDatabases (recovers it))
    → AreClean g log db → CrashLeaves over_files conn e doubtful
    → (image : Image) → outcomes g log db image → HoldsOneOf image e doubtful
unfolding CrashLeaves
images_of {D = D} g conn it e doubtful log db are quiet numbered sound clean left image may =
    let now = subst (λ (p : D × D). AreClean g p.0 p.1) are clean in
    let none : IsClean (view it) = no_doubt _ (clean_is it.pool ∙ now) in
    ∥∥₁_map (opens_again it (numbered none) (sound none) image
    (may_leave_is it.pool image now (subst (λ (p : D × D). outcomes g p.0 p.1 image) are may)))
    (λ found. (found.0, found.2, left (omega (arith, quiet.clean)) found.0 (quiet.outcomes found.0 found.1)))

-- what a connection at rest holds is a store
pub kept_trees : {S : Type 0} (g : store.Ghosts S) (conn : Held S) (k : StoreState)
    → HoldsKept g conn k → HasCleanDisk (state g conn)
    → IsTrue (state g conn).is_open → IsStore (state g conn).committed.trees k
unfolding HoldsKept IsStore
kept_trees g conn k holds clean up = (holds clean up).kept.kept

-- a disk that is clean once a store was made was clean before
pub clean_before : {S : Type 0} (g : store.Ghosts S) (old new : Held S) (k : StoreState)
    → LeavesOr g old new k → HasCleanDisk (state g new) → HasCleanDisk (state g old)
unfolding LeavesOr
clean_before g old new k survives clean = was_clean survives clean

-- a connection that was just opened on a blank database is made a store, or not
pub blank_or : {S : Type 0} (g : store.Ghosts S) (settled : (s : S) (trees : Trees)
    → IsTrue (g.view s).is_open → g.recovers s trees → trees ≡ (g.view s).committed)
    (old new : Held S) (k : StoreState) → LeavesOr g old new k → LeavesBlankOr g old new k
unfolding LeavesOr
blank_or g settled old new k survives opens live blank clean trees may = elim (survives.crash clean trees may) [
  | inl was ↦ inl (
      let s = state g old in
      let committed : s.committed.schema ≡ no_schema =
      ap (λ (db : Database). db.schema) (sym opens.clean) ∙ blank in
      subst₂ IsSound committed (sym (settled old.store trees opens.is_open was)) (live opens.is_open).1)
  | inr made ↦ inr made
]

-- one of the stores is that of one of the lists
pub pick : (trees : Trees) (e doubtful : List EventValue) → IsStoreForOneOf trees e doubtful
    → (x : List EventValue) × IsOneOf x e doubtful × IsStoreFor trees x
pick trees e [] it = (e, refl, it)
pick trees e (y ∷ doubtful) (inl it) = (e ++ y ∷ [], inl refl, it)
pick trees e (y ∷ doubtful) (inr more) = let found = pick trees e doubtful more in (found.0, inr found.1, found.2)

-- what two files hold is what a connection over them has committed
held_is : (Is : Trees → Type 0) (committed : Trees) (image : Image)
    → ((trees : Trees) → HoldsDatabase image trees → committed ≡ trees)
    → (trees : Trees) × ∥ HoldsDatabase image trees ∥₁ × Is trees → Is committed
held_is Is committed image holds it = subst Is (sym (∥∥₁_elim it.1 (Trees-set _ _) (holds it.0))) it.2

-- what a connection that was just opened sees is what the files hold
pub holds_what_is : {S : Type 0} (g : store.Ghosts S) (conn : Held S) (image : Image) (Is : Database
    → Type 0) → ((trees : Trees) → HoldsDatabase image trees → (state g conn).committed.trees ≡ trees)
    → Opens (state g conn) → IsLive (state g conn) → Is (state g conn).now → Holds Is image
holds_what_is g conn image Is holds opens live is = λ trees held. (
  (state g conn).committed,
  ∥∥₁_elim held (Trees-set _ _) (holds trees),
  (live opens.is_open).1,
  subst Is opens.clean is,
)

-- a desk over what two files hold serves one of the lists, where it serves each list whose store was committed
pub serves_one : {S : Type 0} (g : store.Ghosts S) (desk : Desk S) (committed : Trees) (image : Image)
    → ((trees : Trees) → HoldsDatabase image trees → committed ≡ trees)
    → ((x : List EventValue) → IsStoreFor committed x → DeskReflects g desk x × DeskLeaves g desk x [])
    → (e doubtful : List EventValue) → HoldsOneOf image e doubtful → ServesOneOf g desk e doubtful
serves_one g desk committed image holds serves e doubtful one = ∥∥₁_map one (λ it.
    let found = pick it.0 e doubtful it.2 in
    let both = serves found.0 (subst (λ t. IsStoreFor t found.0) (sym (holds it.0 it.1)) found.2) in
    (found.0, found.1, both.0, both.1))

-- a desk that was opened on a connection over two files is opened from these
pub opened_from : {S : Type 0} (g : store.Ghosts S) (conn : Held S) (image : Image) (desk : Desk S)
    → IsOpenedOn g (state g conn) desk → IsHonestDesk g desk
    → ((trees : Trees) → HoldsDatabase image trees → (state g conn).committed.trees ≡ trees)
    → Opens (state g conn) → IsLive (state g conn) → IsOpenedFrom g image desk
opened_from g conn image desk on honest holds opens live =
    let both : (x : List EventValue) → IsStoreFor (state g conn).committed.trees x → DeskReflects
    g desk x × DeskLeaves g desk x [] = λ x it. (on.serves honest x it, on.left x it) in
    record {
      serves = λ e it. both e (held_is (λ t. IsStoreFor t e) _ image holds it);
      found = serves_one g desk _ image holds both;
      version = holds_what_is g conn image IsOfVersion holds opens live (on.version honest);
    }

-- a desk that was migrated on a connection over two files is migrated from these
pub migrated_from : {S : Type 0} (g : store.Ghosts S) (conn : Held S) (image : Image) (desk : Desk S)
    → IsMigratedOn g (state g conn) desk → IsHonestDesk g desk
    → ((trees : Trees) → HoldsDatabase image trees → (state g conn).committed.trees ≡ trees)
    → Opens (state g conn) → IsLive (state g conn) → IsMigratedFrom g image desk
migrated_from g conn image desk on honest holds opens live = record {
  serves = λ m l it. let was = held_is (λ t. IsFirstStoreFor t m l) _ image holds it in
      (on.serves honest m l was, on.left m l was);
  version = holds_what_is g conn image IsOfFirstVersion holds opens live (on.version honest);
}

-- files that hold what a connection had as it was closed hold the store of the events for which that held one
pub closed_store : {D : Type 0} {g : Ghosts D} (conn : Held (FileStore D g)) (files : Files D)
    → IsCopied conn files → (e : List EventValue) → RestsFor over_files conn e
    → (image : Image) → HoldsAlone image (state over_files conn).committed.trees → HoldsStoreFor image e
closed_store conn files copied e rests image holds = (
  (state over_files conn).committed.trees,
  holds.both,
  record {
    kept = rests.kept;
    store = kept_trees over_files conn rests.kept rests.holds copied.was_clean copied.was_open;
    stands_for = rests.stands_for;
  },
)

-- what holds of each value holds where the error alone is changed
pub if_same_value : {T E D : Type 0} (from : Result T E) (to : Result T D) (F : E → D → Type 0)
    → MatchResult from (λ x. to ≡ Ok x) (λ e. IsErrAnd to (F e)) → (P : T → Type 0)
    → ((x : T) → from ≡ Ok x → P x) → IfOk to P
if_same_value (Ok x) to F cases P holds = subst (λ r. IfOk r P) (sym cases) (holds x refl)
if_same_value (Err e) (Ok x) F cases P holds = absurd cases
if_same_value (Err e) (Err d) F cases P holds = tt
