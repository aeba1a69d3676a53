-- Which fault of the database is which of the store, and which faults a call returns.
use Rattle.std.specs.Prelude.{◌≡◌, ◌⊎◌}
use Rattle.sqlite.specs.declared.error.Error.{Error}
use Rattle.sqlite.specs.declared.error.Error.TheVariants.{SqliteFailure}
use Rattle.sqlite.specs.declared.error.ErrorCode.TheVariants.{OutOfMemory}
use Rattle.esc_store.specs.declared.cause.Cause.TheVariants.{Database}
use Rattle.esc_store.specs.declared.fault.StoreFault.{StoreFault}
use Rattle.esc_store.specs.declared.fault.StoreFault.TheVariants.{Failed, NoMemory, NotAStore, NoRoom, NoPlace}

-- an error of the database as a fault: out of memory, or the cause of a failure
abbrev pub fault_of : Error → StoreFault
fault_of (SqliteFailure OutOfMemory) = NoMemory
fault_of error = Failed (Database error)

-- the store failed, for whatever cause
abbrev pub IsFailed : StoreFault → Type 0
IsFailed (Failed cause) = Unit {0}
IsFailed fault = ⊥

-- the store failed, or memory ran out
abbrev pub IsFailure : StoreFault → Type 0
IsFailure fault = IsFailed fault ⊎ (fault ≡ NoMemory)

-- a failure, or the database is not what the call is for
abbrev pub IsOpenFault : StoreFault → Type 0
IsOpenFault fault = (fault ≡ NotAStore) ⊎ IsFailure fault

-- a failure, or the store has no room for a receipt
abbrev pub IsReceiptFault : StoreFault → Type 0
IsReceiptFault fault = (fault ≡ NoRoom) ⊎ IsFailure fault

-- a failure, no room for a receipt, or no place for a parked body
abbrev pub IsArrivalFault : StoreFault → Type 0
IsArrivalFault fault = (fault ≡ NoPlace) ⊎ IsReceiptFault fault
