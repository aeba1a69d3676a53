-- A connection that a store is opened on, what a call that fails leaves of it, and why it fails.
use Rattle.std.specs.Prelude.{◌≡◌, ◌⊎◌, true, false, IsTrue}
use Rattle.sqlite_trees.specs.declared.store.Store.{Ghosts}
use Rattle.sqlite_trees.specs.Tree.{Trees}
use Rattle.sqlite_schema.specs.declared.schema.Schema.{Schema}
use Rattle.sqlite.specs.Effect.{Database}
use Rattle.sqlite.specs.Held.{Held, state}
use Rattle.sqlite.specs.State.{State, HasCleanDisk}
use Rattle.esc_sql.specs.Schema.{no_schema}
use Rattle.esc_store.specs.declared.fault.StoreFault.{StoreFault}
use Rattle.esc_store.specs.declared.fault.StoreFault.TheVariants.{NotAStore}
use Rattle.esc_store.specs.declared.store.Store.{Store}
use Rattle.esc_store.specs.Faults.{IsFailed, IsOpenFault}
use Rattle.esc_store.specs.StoreState.{StoreState}
use Rattle.esc_store.specs.Representation.{Represents, LeavesOnly, IsHonest}

-- no transaction is on, and while the connection is open its database is that of the last commit
abbrev pub IsSettled : State → Type 0
IsSettled s = (s.in_transaction ≡ false) × (IsTrue s.is_open → s.now ≡ s.committed)

-- a transaction is on if one was, and while the connection is open it sees what it saw, over the
-- same commit
pub record IsAsItWas (old new : State) : Type 0 where
  pub in_transaction : HasCleanDisk new → new.in_transaction ≡ old.in_transaction
  pub committed : HasCleanDisk new → IsTrue new.is_open → new.committed ≡ old.committed
  pub now : HasCleanDisk new → IsTrue new.is_open → new.now ≡ old.now

-- a database that lacks these tables is no store: S1 only where it has them, or a transaction is on
pub record IsOpeningFault (tables : Schema) (s : State) (fault : StoreFault) : Type 0 where
  pub kinds : IsOpenFault fault
  pub tested : IsFailed fault → (s.in_transaction ≡ true) ⊎ (s.now.schema ≡ tables)

-- S1 only in a database without any table, index or view, and S3 only in another one
pub record IsFoundingFault (db : Database) (fault : StoreFault) : Type 0 where
  pub kinds : IsOpenFault fault
  pub unused : IsFailed fault → db.schema ≡ no_schema
  pub used : fault ≡ NotAStore → db.schema ≡ no_schema → ⊥

-- why no store was opened, where `Is` says what a store is: S3 never where the last commit is one
pub record IsNoStore (tables : Schema) (Is : Trees → StoreState → Type 0) (old new : State)
    (fault : StoreFault) : Type 0 where
  pub cause : IsOpeningFault tables old fault
  pub never : fault ≡ NotAStore → HasCleanDisk new → IsTrue new.is_open → (k : StoreState)
      → Is old.committed.trees k → ⊥
  pub unchanged : IsAsItWas old new

-- ---- a store over a connection

-- a new store of k: it stands for k, a crash leaves k, and nothing was written to it yet
pub record IsNewStore {S : Type 0} (g : Ghosts S) (k : StoreState) (store : Store S) : Type 0 where
  pub stands : Represents g store k
  pub left : LeavesOnly g store k
  pub writes : store.writes ≡ 0

-- a store over a connection stands for what the connection holds, by `Holds`, and for what its last
-- commit is, by `Is`; a crash leaves that; the database was of this version
pub record IsOpened {S : Type 0} (g : Ghosts S) (Holds : StoreState → Type 0)
    (Is : Trees → StoreState → Type 0)
    (IsOf : Database → Type 0) (conn : Held S) (store : Store S) : Type 0 where
  pub stands : IsHonest g store → (k : StoreState) → Holds k → Represents g store k
  pub found : IsHonest g store → (k : StoreState) → Is (state g conn).committed.trees k
      → Represents g store k
  pub left : (k : StoreState) → Is (state g conn).committed.trees k → LeavesOnly g store k
  pub writes : store.writes ≡ 0
  pub version : IsHonest g store → IsOf (state g conn).now
