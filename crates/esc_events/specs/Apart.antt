-- What holds if no two different bodies have the same digest.
use Rattle.std.specs.Prelude.{List}
use Rattle.sha2.specs.Sha256.{sha256}
use Rattle.esc_tables.specs.Reading.{reading}
use Rattle.esc_events.specs.Events.{EventValue}
use Rattle.esc_events.specs.StateAfter.{IsApart}

-- this holds, if no two different bodies that count by these events have the same SHA-256
abbrev pub WhereApart : List EventValue → Type 0 → Type 0
WhereApart e says = IsApart sha256 reading e → says
