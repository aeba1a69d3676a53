-- How an export goes to a client, piece by piece.
use Rattle.std.specs.Prelude.{◌≡◌, ◌⊎◌, ℕ, ◌+◌, ◌<◌, ◌≤◌, List, [], ◌∷◌, ◌++◌, length, Option}
use Rattle.std.specs.Prelude.{Some, None, Bool, false, IsTrue}
use Rattle.std.specs.Io.KnownBytes.{Appends, Keeps}
use Rattle.esc_apply.specs.ObjectStreams.{Entry, InOrder}
use Rattle.esc_store.specs.declared.fault.StoreFault.{StoreFault}
use Rattle.esc_store.specs.Faults.{IsFailure}
use Rattle.esc_envelope.specs.declared.kind.Kind.{Kind}
use Rattle.esc_events.specs.Apart.{WhereApart}
use Rattle.esc_events.specs.Events.{EventValue}
use Rattle.esc_events.specs.LatestTables.{AreEntries}
use Rattle.esc_check.specs.Export.{export_text}
use Rattle.esc_http.specs.declared.outbox.Outbox.{Outbox}
use Rattle.esc_http.specs.declared.serve_fault.ServeFault.{ServeFault}
use Rattle.esc_http.specs.declared.serve_fault.ServeFault.TheVariants.{Read, Write, Export}

-- the entries of at most one object
abbrev pub entries_of : Option Entry → List Entry
entries_of None = []
entries_of (Some e) = e ∷ []

-- of the bytes that waited and those that were taken, a beginning was sent, and these wait. Where
-- some waited, some wait
pub record Passes (old new : Option (List ℕ)) (waited taken waits : List ℕ) : Type 0 where
  pub sent : List ℕ
  pub appends : Appends old new sent
  pub whole : waited ++ taken ≡ sent ++ waits
  pub some : 0 < length waited → 0 < length waits

-- as long as the outbox says that nothing was sent, nothing was
abbrev pub SaysUnsent : Option (List ℕ) → Option (List ℕ) → Outbox → Outbox → Type 0
SaysUnsent old new before after = after.has_sent ≡ false
    → (before.has_sent ≡ false) × Keeps old new

-- these bytes went into the outbox, and perhaps on to the client
pub record HandsOn (old new : Option (List ℕ)) (before after : Outbox)
    (taken : List ℕ) : Type 0 where
  pub passes : Passes old new before.waiting.items taken after.waiting.items
  pub left : before.left ≡ after.left + length taken
  pub unsent : SaysUnsent old new before after

-- no more bytes than these went into the outbox, and those that wait are lost
pub record Stops (old new : Option (List ℕ)) (before after : Outbox)
    (taken : List ℕ) : Type 0 where
  pub waits : List ℕ
  pub passes : Passes old new before.waiting.items taken waits
  pub within : length taken ≤ before.left
  pub unsent : SaysUnsent old new before after

-- a fault that the source may return, or another failure of the desk
abbrev pub FailsOr : (StoreFault → Type 0) → StoreFault → Type 0
FailsOr Fails fault = Fails fault ⊎ IsFailure fault

-- why an export is cut: a write failed, or the desk did, by one of these faults
abbrev pub IsCut : (StoreFault → Type 0) → Bool → ServeFault → Type 0
IsCut Fails has_failed Read = ⊥
IsCut Fails has_failed Write = IsTrue has_failed
IsCut Fails has_failed (Export fault) = Fails fault

-- a beginning of the text was written, and its end was not
pub record AppendsPart (old new : Option (List ℕ)) (text : List ℕ) : Type 0 where
  pub sent : List ℕ
  pub unsent : List ℕ
  pub parts : text ≡ sent ++ unsent
  pub some : 0 < length unsent
  pub appends : Appends old new sent

-- these bytes are the export of a kind, of the tables after these events
abbrev pub IsExportAfter : Kind → List ℕ → List EventValue → Type 0
IsExportAfter kind text e = WhereApart e ((es : List Entry) → AreEntries e es → InOrder es
    → text ≡ export_text kind es)

-- that export begins with these bytes
abbrev pub BeginsExportAfter : Kind → List ℕ → List EventValue → Type 0
BeginsExportAfter kind taken e = WhereApart e ((es : List Entry) → AreEntries e es → InOrder es
    → (rest : List ℕ) × (export_text kind es ≡ taken ++ rest))
