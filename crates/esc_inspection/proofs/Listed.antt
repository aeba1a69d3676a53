-- The objects of a store as one list by key.
use Rattle.std.proofs.Common.{List}
use Rattle.sha2.specs.Sha256.{sha256}
use Rattle.esc_tables.specs.DepositValue.{DepositValue}
use Rattle.esc_tables.specs.Reading.{reading}
use Rattle.esc_apply.specs.ObjectStreams.{Entry, InOrder}
use Rattle.esc_apply.specs.Registry.{IsEntriesOf}
use Rattle.esc_apply.specs.Tables.{tables}
use Rattle.esc_store.specs.StoreState.{StoreState}
use Rattle.esc_events.specs.Events.{EventValue}
use Rattle.esc_events.specs.LatestTables.{AreEntries}
use Rattle.esc_desk.specs.Laws.{TablesAreOfEvents}
use Rattle.esc_events.specs.StateAfter.{IsApart, IsStateAfter, deposits_of, held_body}

-- the tables of any deposits have a listing by key
abbrev pub AreListed : Type 0
AreListed = (ds : List DepositValue) → (es : List Entry) × InOrder es × IsEntriesOf (tables ds) es

-- so have those of the state after these events
pub listing : (e : List EventValue) (kept : StoreState) → AreListed → TablesAreOfEvents
    → IsStateAfter sha256 reading e kept
    → IsApart sha256 reading e → (es : List Entry) × AreEntries e es × InOrder es
listing e kept listed of_events stands_for apart =
    let entries = listed (deposits_of reading (held_body sha256 reading e) kept.steps) in
    let latest = (of_events e kept stands_for apart).latest in
    (entries.0, record { chain = kept.steps; latest = latest; objects = entries.2 }, entries.1)
