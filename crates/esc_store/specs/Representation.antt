-- What a store stands for, and a change of it while it is on.
use Rattle.std.specs.Prelude.{◌≡◌, ℕ, true, false, IsTrue, List, Option, Result, Ok, IfOk, OnOk}
use Rattle.std.specs.Prelude.{OnErr, IsErr, ◌+◌, ◌-◌, ◌^◌, min}
use Rattle.std.specs.Option.{unwrap_or}
use Rattle.std.specs.Borrow.{GName}
use Rattle.sqlite_trees.specs.declared.store.Store.{Ghosts}
use Rattle.sqlite_trees.specs.Tree.{Trees}
use Rattle.sqlite.specs.Effect.{Database}
use Rattle.sqlite.specs.Held.{Held, state}
use Rattle.sqlite.specs.State.{State, HasCleanDisk, Survives, KeepsCommit, IsUnchanged}
use Rattle.esc_manifest.specs.declared.row.MRow.{MRow}
use Rattle.esc_apply.specs.Registry.{State as Tables}
use Rattle.esc_sql.specs.Content.{Content, IsInOrder, content_in}
use Rattle.esc_sql.specs.Changes.{Tells}
use Rattle.esc_store.specs.declared.store.Store.{Store}
use Rattle.esc_store.specs.declared.change.Change.{Change}
use Rattle.esc_store.specs.declared.remembered.Remembered.{Remembered}
use Rattle.esc_store.specs.StoreState.{StoreState, with_registry}
use Rattle.esc_store.specs.Remembered.{IsRemembered}
use Rattle.esc_store.specs.TypedRows.{IsBooks, IsRegistry}
use Rattle.esc_store.specs.StoreTables.{IsStore, IsStoreDatabase, HoldsTables}

-- ---- a store

-- the connection of a store
abbrev pub connection_of : {S : Type 0} → Store S → Held S
connection_of store = store.conn

-- the rows that a store lists
abbrev pub listed_rows_of : {S : Type 0} → Store S → List MRow
listed_rows_of store = store.manifest

-- how many objects were put into a store or removed since it was opened; a removal counts even if
-- there was no object
abbrev pub store_writes : {S : Type 0} → Store S → ℕ
store_writes store = store.writes

-- the database of a connection holds exactly this, and no transaction is on
pub record IsAtRest (s : State) (k : StoreState) : Type 0 where
  pub kept : IsStoreDatabase s.committed k
  pub same : s.now ≡ s.committed
  pub autocommit : s.in_transaction ≡ false

-- the same, if the disk gave back what was written to it, and the connection is open
abbrev pub IsAtRestIfClean : State → StoreState → Type 0
IsAtRestIfClean s k = HasCleanDisk s → IsTrue s.is_open → IsAtRest s k

-- the same of a connection: its database is then a store that keeps k
unfoldable pub HoldsKept : {S : Type 0} → Ghosts S → Held S → StoreState → Type 0
HoldsKept g conn k = IsAtRestIfClean (state g conn) k

-- a store of this manifest that remembers this, over a connection in this state, stands for k
pub record IsStanding (s : State) (manifest : List MRow) (it : Remembered) (k : StoreState)
    : Type 0 where
  pub listed : manifest ≡ k.listed
  pub rests : IsAtRestIfClean s k
  pub remembered : HasCleanDisk s → IsRemembered it k

-- a store stands for this: its manifest is that of k, and, if the disk gave back what was written
-- to it, what it remembers, if anything, is so of k, and its database holds exactly k if the
-- connection is open
unfoldable pub Represents : {S : Type 0} → Ghosts S → Store S → StoreState → Type 0
Represents g store k = IsStanding (state g store.conn) store.manifest store.remembered k

-- a store gave back what was written to it so far
abbrev pub IsHonest : {S : Type 0} → Ghosts S → Store S → Type 0
IsHonest g store = HasCleanDisk (state g store.conn)

-- ---- what a crash leaves

-- after a crash now, the next open finds a store that keeps k
unfoldable pub LeavesOnly : {S : Type 0} → Ghosts S → Store S → StoreState → Type 0
LeavesOnly g store k = HasCleanDisk (state g store.conn) → (trees : Trees)
    → (state g store.conn).may_leave trees → IsStore trees k

-- what a crash after a call may leave is what it might leave before the call, or a store that keeps
-- k
unfoldable pub LeavesOr : {S : Type 0} → Ghosts S → Held S → Held S → StoreState → Type 0
LeavesOr g old new k = Survives (state g old) (state g new) (λ trees. IsStore trees k)

-- the same of two stores
abbrev pub StoreLeavesOr : {S : Type 0} → Ghosts S → Store S → Store S → StoreState → Type 0
StoreLeavesOr g old new k = LeavesOr g old.conn new.conn k

-- a call adds nothing to what a crash may leave
abbrev pub LeavesNoMore : {S : Type 0} → Ghosts S → Held S → Held S → Type 0
LeavesNoMore g old new = Survives (state g old) (state g new) (λ trees. ⊥)

-- the same of two stores
abbrev pub StoreLeavesNoMore : {S : Type 0} → Ghosts S → Store S → Store S → Type 0
StoreLeavesNoMore g old new = LeavesNoMore g old.conn new.conn

-- ---- a change

-- nothing is committed yet: either the transaction is on, and sees the store's tables, or it was
-- rolled back
pub record IsBegun (s : State) (manifest : List MRow) (k : StoreState) : Type 0 where
  pub listed : manifest ≡ k.listed
  pub on : HasCleanDisk s → s.in_transaction ≡ true → IsTrue s.is_open
      × IsStoreDatabase s.committed k × HoldsTables s.now
  pub off : HasCleanDisk s → s.in_transaction ≡ false → IsTrue s.is_open
      → IsStoreDatabase s.committed k × (s.now ≡ s.committed)

-- a change was begun on this store, which stood for k, and nothing is committed of it yet
unfoldable pub BeganIn : {S : Type 0} → Ghosts S → Store S → StoreState → Type 0
BeganIn g store k = IsBegun (state g store.conn) store.manifest k

-- a change of a store of `before`, over a connection in this state, lists these rows and has made k
-- of its rows, receipts, bodies, parked bodies, moment and chain; nothing is committed of it
pub record IsMade (s : State) (manifest rows : List MRow) (before k : StoreState) : Type 0 where
  pub begun : IsBegun s manifest before
  pub listed : rows ≡ k.listed
  pub books : HasCleanDisk s → s.in_transaction ≡ true → IsBooks (content_in s.now.trees) k

-- a change that was begun on a store of `before`, and that lists these rows in place of the store's
-- if it lists any, has made k of its rows, receipts, bodies, parked bodies, moment and chain
unfoldable pub HasMadeBooksIn : {S : Type 0} → Ghosts S → Store S → Option (List MRow) → StoreState
    → StoreState
    → Type 0
HasMadeBooksIn g store listing before k =
    IsMade (state g store.conn) store.manifest (unwrap_or listing store.manifest) before k

-- a transaction is on, and sees the store's tables, which hold these objects and before-images
pub record IsUnderWay (s : State) (tables : Tables) : Type 0 where
  pub is_open : IsTrue s.is_open
  pub in_transaction : s.in_transaction ≡ true
  pub tables_are : HoldsTables s.now
  pub registry : IsRegistry (content_in s.now.trees) tables

-- a change goes on, and has made this of its tables and before-images
unfoldable pub HasMadeTablesIn : {S : Type 0} → Ghosts S → Store S → Tables → Type 0
HasMadeTablesIn g store tables = HasCleanDisk (state g store.conn)
    → IsUnderWay (state g store.conn) tables

-- the store that a change is of, by what it holds now
abbrev pub store_in : {S L : Type 0} → Change S L → Store S
store_in change = change.store.now

-- the same store, by the name of the reference to it
abbrev pub store_name : {S L : Type 0} → Change S L → GName
store_name change = change.store.ghost_name

-- how many objects a change has put or removed so far, counted in the same way
abbrev pub change_count : {S L : Type 0} → Change S L → ℕ
change_count change = change.count

-- a change of a store, which lists rows or none
abbrev pub ChangeOf : Type 0 → Type 0
ChangeOf S = Change S (Option (List MRow))

-- the rows that the store has once the change is committed: those that the change lists, or else
-- the store's own
abbrev pub listed_by : {S : Type 0} → ChangeOf S → List MRow
listed_by change = unwrap_or change.listing change.store.now.manifest

-- a change was begun on a store that stood for k, and nothing of it is committed yet
abbrev pub Began : {S L : Type 0} → Ghosts S → Change S L → StoreState → Type 0
Began g change k = BeganIn g change.store.now k

-- a change that was begun on a store of `before` has made k of its rows, receipts, bodies, parked
-- bodies, moment and chain; this says nothing of k's registry
abbrev pub HasMadeBooks : {S : Type 0} → Ghosts S → ChangeOf S → StoreState → StoreState → Type 0
HasMadeBooks g change before k = HasMadeBooksIn g change.store.now change.listing before k

-- a change goes on, and has made this of its tables and before-images
abbrev pub HasMadeTables : {S : Type 0} → Ghosts S → ChangeOf S → Tables → Type 0
HasMadeTables g change tables = HasMadeTablesIn g change.store.now tables

-- ---- from one call to the next

-- what a read leaves as it was, whatever it returns
pub record IsAsBefore {S : Type 0} (g : Ghosts S) (old new : Store S) : Type 0 where
  pub manifest : new.manifest ≡ old.manifest
  pub writes : new.writes ≡ old.writes
  pub survives : LeavesNoMore g old.conn new.conn
  pub stands : (k : StoreState) → Represents g old k → Represents g new k

-- what each call of a change leaves as it was, whatever it returns: nothing is committed
pub record IsUncommitted {S : Type 0} (g : Ghosts S) (old new : ChangeOf S) : Type 0 where
  pub same_reference : new.store.ghost_name ≡ old.store.ghost_name
  pub manifest : new.store.now.manifest ≡ old.store.now.manifest
  pub writes : new.store.now.writes ≡ old.store.now.writes
  pub survives : LeavesNoMore g old.store.now.conn new.store.now.conn
  pub began : (k : StoreState) → Began g old k → Began g new k

-- a part of a change: where it succeeded it made this of the rows, receipts, bodies, parked bodies,
-- moment and chain that the change has; nothing is committed, and the tables are as they were
pub record IsChangePart {S X E : Type 0} (g : Ghosts S) (old new : ChangeOf S)
    (result : Result X E) (made : StoreState → StoreState) : Type 0 where
  pub goes_on : IsUncommitted g old new
  pub count : new.count ≡ old.count
  pub makes : OnOk result (IsHonest g new.store.now → (before k : StoreState)
      → HasMadeBooks g old before k
      → HasMadeBooks g new before (made k))
  pub holds : OnOk result ((s : Tables) → HasMadeTables g old s → HasMadeTables g new s)

-- what the calls of a change as a registry leave as it was, whatever they return: nothing is
-- committed, and the rows, receipts, bodies, parked bodies, moment and chain are as they were
pub record ChangeFollows {S : Type 0} (g : Ghosts S) (old new : ChangeOf S) : Type 0 where
  pub goes_on : IsUncommitted g old new
  pub listed : listed_by new ≡ listed_by old
  pub rest : (before k : StoreState) → HasMadeBooks g old before k → HasMadeBooks g new before k

-- ---- where a change begins and ends

-- a change was begun on a store, and has made nothing yet
pub record IsNewChange {S : Type 0} (g : Ghosts S) (store : Store S) (change : ChangeOf S)
    : Type 0 where
  pub count : change.count ≡ 0
  pub manifest : change.store.now.manifest ≡ store.manifest
  pub writes : change.store.now.writes ≡ store.writes
  pub listed : listed_by change ≡ store.manifest
  pub survives : LeavesNoMore g store.conn change.store.now.conn
  pub began : (k : StoreState) → Represents g store k → Began g change k
  pub rest : (k : StoreState) → Represents g store k → HasMadeBooks g change k k
  pub holds : (k : StoreState) → Represents g store k → HasMadeTables g change k.registry

-- a change was committed: the store lists its rows, counts its writes, and stands for what it made
pub record IsCommitOf {S : Type 0} (g : Ghosts S) (change : ChangeOf S) (last : Store S)
    : Type 0 where
  pub manifest : last.manifest ≡ listed_by change
  pub writes : last.writes ≡ min (change.store.now.writes + change.count) (2 ^ 64 - 1)
  pub stands : (before k : StoreState) (s : Tables)
      → HasMadeBooks g change before (with_registry k s)
      → HasMadeTables g change k.registry → Represents g last k
  pub left : (before k : StoreState) (s : Tables) → HasMadeBooks g change before (with_registry k s)
      → HasMadeTables g change k.registry → LeavesOnly g last k

-- a change was rolled back: the store is what it was before it
pub record IsRollbackOf {S L : Type 0} (g : Ghosts S) (change : Change S L) (last : Store S)
    : Type 0 where
  pub manifest : last.manifest ≡ change.store.now.manifest
  pub writes : last.writes ≡ change.store.now.writes
  pub stands : (before : StoreState) → Began g change before → Represents g last before

-- ---- parts of a change, and reads, by the state of the connection

-- what a failure left of a transaction is rolled back: none is on, and nothing was committed
pub record IsGivenUp (old new : State) : Type 0 where
  pub survives : Survives old new (λ trees. ⊥)
  pub kept : HasCleanDisk new → KeepsCommit old new
  pub ended : HasCleanDisk new → new.in_transaction ≡ false
  pub settled : HasCleanDisk new → IsTrue new.is_open → new.now ≡ new.committed

-- a part of a change: where it succeeds it is made within the transaction, and where it fails the
-- transaction is rolled back
pub record IsStep {X E : Type 0} (old new : State) (Made : Database → Database → Type 0)
    (result : Result X E) : Type 0 where
  pub survives : Survives old new (λ trees. ⊥)
  pub kept : HasCleanDisk new → KeepsCommit old new
  pub made : HasCleanDisk new → OnOk result ((old.in_transaction ≡ true) × Made old.now new.now
      × (new.in_transaction ≡ true) × IsTrue new.is_open)
  pub failed : HasCleanDisk new
      → OnErr result ((new.in_transaction ≡ false) × (IsTrue new.is_open → new.now ≡ new.committed))

-- a read: where it succeeds nothing has changed, and where it fails no transaction is on
pub record IsLook {X E : Type 0} (old new : State) (Says : Database → X → Type 0)
    (result : Result X E) : Type 0 where
  pub survives : Survives old new (λ trees. ⊥)
  pub kept : HasCleanDisk new → KeepsCommit old new
  pub said : HasCleanDisk new → IfOk result (λ x. Says old.now x × IsUnchanged old new)
  pub failed : HasCleanDisk new
      → OnErr result ((new.in_transaction ≡ false) × (IsTrue new.is_open → new.now ≡ new.committed))

-- the same of a store, whose manifest, count of writes and memory are as they were
pub record IsStoreRead {S X E : Type 0} (g : Ghosts S) (old new : Store S) (Says : Content → X
    → Type 0) (result : Result X E) : Type 0 where
  pub manifest : new.manifest ≡ old.manifest
  pub writes : new.writes ≡ old.writes
  pub remembered : new.remembered ≡ old.remembered
  pub look : IsLook (state g old.conn) (state g new.conn) (Tells Says) result

-- the outcome of a statement is settled: where it failed, a transaction that is on is rolled back
pub record Settles {S X D E : Type 0} (g : Ghosts S) (old new : Store S) (outcome : Result X D)
    (result : Result X E) : Type 0 where
  pub survives : LeavesNoMore g old.conn new.conn
  pub ok : IfOk result (λ x. (outcome ≡ Ok x) × (new ≡ old))
  pub err : OnErr result
      (IsErr outcome × IsGivenUp (state g old.conn) (state g new.conn))

-- rows that hold what a store keeps, of which this is said
pub record IsTold (k : StoreState) (Says : Content → Type 0) : Type 0 where
  pub content : Content
  pub ordered : IsInOrder content
  pub books : IsBooks content k
  pub registry : IsRegistry content k.registry
  pub says : Says content
