-- An arrival that comes again, and whose body may not be there.
--
-- A store of version 1 didn't keep the bodies that no row listed, and gave them A2. A duplicate of
-- such an arrival gets that reply, and its body is taken in if it is missing.
use Rattle.std.specs.Prelude.{◌≡◌, ℕ, Bool, true, false, ◌&&◌, List, Option, Some, None, is_none}
use Rattle.sha2.specs.Sha256.{sha256}
use Rattle.esc_tables.specs.Reading.{reading}
use Rattle.esc_store.specs.declared.reply.Verdict.{Verdict}
use Rattle.esc_store.specs.declared.reply.Verdict.TheVariants.{A1, A2, A3, A4, A5}
use Rattle.esc_store.specs.ReplyValue.{ReplyValue}
use Rattle.esc_events.specs.declared.assessment.Assessment.{Assessment}
use Rattle.esc_events.specs.declared.assessment.Assessment.TheVariants.{Unlisted, Unreadable}
use Rattle.esc_events.specs.declared.assessment.Assessment.TheVariants.{Differing, Holding}
use Rattle.esc_events.specs.ArrivalValue.{ArrivalValue}
use Rattle.esc_events.specs.Events.{EventValue, union}
use Rattle.esc_events.specs.Assessment.{assessment}
use Rattle.esc_events.specs.Receipts.{reply_to}
use Rattle.esc_events.specs.StateAfter.{held_body, parked_body}

-- this arrival is no duplicate of an earlier one, or that one's verdict was A2, so that its body
-- was not kept
abbrev pub IsUnkept : List EventValue → ArrivalValue → Type 0
IsUnkept e a = (r : ReplyValue) → reply_to sha256 reading e a ≡ Some r → r.verdict ≡ A2

-- the body of an arrival with this verdict was not kept
abbrev pub is_unkept : Verdict → Bool
is_unkept A1 = false
is_unkept A2 = true
is_unkept (A3 n) = false
is_unkept A4 = false
is_unkept A5 = false

-- a body with this digest, of which this was found, is missing among these held and parked bodies:
-- no row lists it, and it isn't parked; or it is the deposit of a row that has no body
abbrev pub is_missing : (ℕ → Option (List ℕ)) → (List ℕ → Option (List ℕ)) → List ℕ → Assessment
    → Bool
is_missing bodies parked digest Unlisted = is_none (parked digest)
is_missing bodies parked digest (Unreadable r n) = false
is_missing bodies parked digest (Differing r) = false
is_missing bodies parked digest (Holding r d) = is_none (bodies r)

-- the body of an arrival is missing after these events
abbrev pub is_missing_after : List EventValue → ArrivalValue → Bool
is_missing_after e a =
    is_missing (held_body sha256 reading e) (parked_body sha256 reading e) (sha256 a.body)
    (assessment sha256 reading (union e) a.body)

-- an arrival that is answered changes a table, by the reply to one like it before, if there was
-- one, and by whether its body is missing: it is no duplicate, or its body was not kept, and is
-- missing
abbrev pub changes_table : Option ReplyValue → Bool → Bool
changes_table None missing = true
changes_table (Some r) missing = is_unkept r.verdict && missing
