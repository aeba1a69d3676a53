-- What a file shows that is only read.
use Rattle.std.specs.Prelude.{◌≡◌, Bool, List, [], ◌∷◌}
use Rattle.sqlite_disk.specs.declared.modelled.Modelled.{Modelled}
use Rattle.sqlite_disk.specs.declared.calls.Calls as calls
use Rattle.sqlite_disk.specs.declared.start.Start.{Ghosts}
use Rattle.sqlite_disk.specs.Modelled.{start_of}
use Rattle.sqlite_disk.specs.Events.{Event, settled, replay}
use Rattle.esc_read_only.specs.Notes.{history}
use Rattle.esc_read_only.specs.declared.untouched.Untouched.{Untouched}

-- the calls so far, the newest first
abbrev pub calls_of_file : Untouched → List Event
calls_of_file file = history file.notes

module _ {S : Type 0} {g : calls.Ghosts Untouched} {start : Ghosts S} where
  -- as a disk it is usable
  abbrev pub reading_is_usable : Modelled Untouched S g start → Bool
  reading_is_usable it = (replay (start_of start it) (history it.calls.notes)).is_usable

  -- it is the log or the database file, and was asked nothing since it was opened
  abbrev pub IsUnasked : Bool → Modelled Untouched S g start → Type 0
  IsUnasked is_log it = (it.is_log ≡ is_log) × (history it.calls.notes ≡ settled it.key ∷ [])
