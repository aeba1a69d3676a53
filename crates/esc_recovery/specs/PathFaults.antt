-- Why there is no desk over the files at a path.
use Rattle.std.specs.Prelude.{◌≡◌, ◌≢◌}
use Rattle.std.specs.IoError.{error_kind}
use Rattle.std.specs.declared.io.Error.{Error as SystemError}
use Rattle.std.specs.declared.io.ErrorKind.TheVariants.{OutOfMemory}
use Rattle.sqlite_std_file.specs.declared.pair.OpenError.{OpenError}
use Rattle.sqlite_std_file.specs.declared.pair.OpenError.TheVariants as opening
use Rattle.sqlite.specs.declared.error.Error.{Error}
use Rattle.sqlite.specs.declared.error.Error.TheVariants.{SqliteFailure}
use Rattle.sqlite.specs.declared.error.ErrorCode.TheVariants.{CannotOpen, DatabaseBusy}
use Rattle.esc_store.specs.declared.obstacle.Obstacle.TheVariants.{Journal, Unknown}
use Rattle.esc_store.specs.declared.fault.StoreFault.{StoreFault}
use Rattle.esc_store.specs.declared.fault.StoreFault.TheVariants.{NoMemory}
use Rattle.esc_store.specs.Faults.{fault_of}
use Rattle.esc_recovery.specs.declared.path.PathFault.{PathFault}
use Rattle.esc_recovery.specs.declared.path.PathFault.TheVariants.{Missing, Unopened, Store}

-- the store's fault
abbrev pub of_store : StoreFault → PathFault
of_store fault = Store fault

-- an error of the database: the files can't be opened, or the store's fault
abbrev pub path_fault_of : Error → PathFault
path_fault_of (SqliteFailure CannotOpen) = Unopened Unknown
path_fault_of error = Store (fault_of error)

-- the files can't be opened
abbrev pub IsUnopened : PathFault → Type 0
IsUnopened (Unopened obstacle) = Unit {0}
IsUnopened fault = ⊥

-- memory was refused, or the files can't be opened
pub record IsRefusal (error : SystemError) (fault : PathFault) : Type 0 where
  pub memory : error_kind error ≡ OutOfMemory → fault ≡ Store NoMemory
  pub other : error_kind error ≢ OutOfMemory → IsUnopened fault

-- an error of the opening of files: the system's, no memory, a lock of another process, a journal
abbrev pub IsOpeningRefusal : OpenError → PathFault → Type 0
IsOpeningRefusal (opening.Io error) fault = IsRefusal error fault
IsOpeningRefusal opening.OutOfMemory fault = fault ≡ Store NoMemory
IsOpeningRefusal opening.Busy fault = fault ≡ path_fault_of (SqliteFailure DatabaseBusy)
IsOpeningRefusal opening.HotJournal fault = fault ≡ Unopened Journal

-- there is no file, the files can't be opened, or this holds of the store's fault
abbrev pub IsUnopenedOr : (StoreFault → Type 0) → PathFault → Type 0
IsUnopenedOr Is Missing = Unit {0}
IsUnopenedOr Is (Unopened obstacle) = Unit {0}
IsUnopenedOr Is (Store fault) = Is fault
