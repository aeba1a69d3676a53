-- What a look-up among the objects of the latest chain's tables returns.
use Rattle.std.specs.Prelude.{◌≡◌, ℕ, List, Option, Some, IfSome, option_map, slice_get}
use Rattle.std.specs.Map.{lookup}
use Rattle.esc_tables.specs.KeyName.{KeyName, key_eq}
use Rattle.esc_tables.specs.ObjectValue.{ObjectValue}
use Rattle.esc_apply.specs.ObjectStreams.{Entry, InOrder}
use Rattle.esc_events.specs.Apart.{WhereApart}
use Rattle.esc_events.specs.Events.{EventValue}
use Rattle.esc_events.specs.LatestTables.{AreEntries}

-- this holds of the objects of the tables after these events, in the order of their keys
abbrev pub ForTables : List EventValue → (List Entry → Type 0) → Type 0
ForTables e says = WhereApart e ((es : List Entry) → AreEntries e es → InOrder es → says es)

-- what was found of a key: its object among the entries, if there is one, and where it stands
pub record IsFoundAmong (es : List Entry) (key : KeyName) (found : Option (ℕ × ObjectValue))
    : Type 0 where
  pub object : option_map (λ f. f.1) found ≡ lookup (key_eq key) es
  pub position : IfSome found (λ f. slice_get es f.0 ≡ Some (key, f.1))
