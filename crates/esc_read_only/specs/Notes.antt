-- What a file was asked and answered, as the list of calls that `sqlite_disk` reads.
use Rattle.std.specs.Prelude.{ℕ, Bool, List, ◌∷◌, map, reverse}
use Rattle.sqlite_disk.specs.Events.{Event}
use Rattle.esc_read_only.specs.declared.notes.Question.{Question}
use Rattle.esc_read_only.specs.declared.notes.Question.TheVariants.{Opened, Length, Bytes, TestedBytes, Write, Cut, Sync}
use Rattle.esc_read_only.specs.declared.notes.Call.{Call}
use Rattle.esc_read_only.specs.declared.notes.Notes.{Notes}
use Rattle.esc_read_only.specs.Noted.{noted_items}

-- the number that a list of calls has for a question
abbrev pub question_number : Question → ℕ
question_number Opened = 0
question_number Length = 1
question_number Bytes = 2
question_number Write = 3
question_number Cut = 4
question_number Sync = 5
question_number (TestedBytes key want) = 6

-- a call's bytes, behind the key and the digest of a test
abbrev pub bytes_behind : Question → List ℕ → List ℕ
bytes_behind (TestedBytes key want) bytes = key ∷ want ∷ bytes
bytes_behind question bytes = bytes

-- a call with these bytes
abbrev pub call_noted : Call → List ℕ → Event
call_noted call bytes = (
  question_number call.question,
  call.at,
  call.count,
  call.succeeds,
  bytes_behind call.question bytes,
)

-- a question for so many bytes at an offset, whether it succeeds, and these bytes
abbrev pub read_noted : Question → ℕ → ℕ → Bool → List ℕ → Event
read_noted question at count succeeds bytes =
    call_noted (record { question = question; at = at; count = count; succeeds = succeeds }) bytes

-- the calls that were noted, the newest first
abbrev pub history : Notes → List Event
history notes = reverse (map (λ it. call_noted it.0 (noted_items it.1)) notes.calls.items)
