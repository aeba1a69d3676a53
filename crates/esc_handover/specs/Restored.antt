-- The registry that is rebuilt from its tables alone, as one deposit or as a series (this project's
-- profile).
use Rattle.std.specs.Prelude.{◌≡◌, ℕ, suc, ℤ, List, [], ◌∷◌, length, All, Any}
use Rattle.std.specs.Map.{lookup}
use Rattle.sha2.specs.Sha256.{sha256}
use Rattle.esc_manifest.specs.declared.row.MRow.{MRow}
use Rattle.esc_tables.specs.KeyName.{KeyName, key_eq}
use Rattle.esc_apply.specs.ObjectStreams.{Entry, InOrder}
use Rattle.esc_apply.specs.Tables.{tables}
use Rattle.esc_events.specs.Apart.{WhereApart}
use Rattle.esc_events.specs.ArrivalValue.{ArrivalValue, an_arrival}
use Rattle.esc_events.specs.Events.{EventValue, manifest_then}
use Rattle.esc_events.specs.Events.EventValue.{listed, arrived}
use Rattle.esc_events.specs.LatestTables.{AreEntries}
use Rattle.esc_deposit.specs.FullBundle.{first_full_header, full_of, IsFullOf}
use Rattle.esc_deposit.specs.RegistrySeries.{part_header, AreSeriesOf}

-- the row that lists a body as the Full of a moment
abbrev pub full_row : List ℕ → ℤ → List ℕ → MRow
full_row id watermark body = record {
  header = first_full_header id watermark;
  digest = sha256 body;
}

-- a manifest of that row alone was taken in, and then the body arrived
abbrev pub held_alone : List ℕ → ℤ → List ℕ → List ℕ → List EventValue
held_alone id watermark body number =
    listed (full_row id watermark body ∷ []) ∷ arrived (an_arrival number body) ∷ []

-- the tables of a Full of objects are just these objects
abbrev pub FullHasItsObjects : Type 0
FullHasItsObjects = (id : List ℕ) (watermark : ℤ) (es : List Entry) (q : KeyName)
    → tables (full_of id watermark es ∷ []) q ≡ lookup (key_eq q) es

-- once such a body is listed alone and held, the tables are just these objects
abbrev pub FullIsRestored : Type 0
FullIsRestored = (id : List ℕ) (watermark : ℤ) (es : List Entry) (body number : List ℕ)
    → InOrder es → IsFullOf id watermark es body
    → AreEntries (held_alone id watermark body number) es

-- ---- a series

-- the row that lists a body as the part with this number, from 0, of so many
abbrev pub part_row : List ℕ → ℤ → ℕ → ℕ → List ℕ → MRow
part_row id watermark of number body = record {
  header = part_header id watermark of number;
  digest = sha256 body;
}

-- the rows that list bodies as the parts from this number on
abbrev pub part_rows : List ℕ → ℤ → ℕ → ℕ → List (List ℕ) → List MRow
part_rows id watermark of number [] = []
part_rows id watermark of number (body ∷ bodies) =
    part_row id watermark of number body ∷ part_rows id watermark of (suc number) bodies

-- a manifest that lists bodies as all the parts of a series was taken in, and then these came
abbrev pub series_then : List ℕ → ℤ → List (List ℕ) → List ArrivalValue → List EventValue
series_then id watermark bodies came =
    manifest_then (part_rows id watermark (length bodies) 0 bodies) came

-- each of the bodies came
abbrev pub HaveCome : List (List ℕ) → List ArrivalValue → Type 0
HaveCome bodies came = All (λ body. Any (λ (a : ArrivalValue). a.body ≡ body) came) bodies

-- once each body of a series has come, in whatever order, however often and whatever else came, the
-- tables are just the objects of the series, if no two different bodies that came have one SHA-256
abbrev pub SeriesIsRestored : Type 0
SeriesIsRestored = (id : List ℕ) (watermark : ℤ) (es : List Entry) (bodies : List (List ℕ))
    (came : List ArrivalValue) → InOrder es → AreSeriesOf id watermark es bodies
    → HaveCome bodies came
    → WhereApart (series_then id watermark bodies came)
    (AreEntries (series_then id watermark bodies came) es)
