-- Lists of events, and what was listed, arrived and set by them (this project's profile).
use Rattle.std.specs.Prelude.{ℕ, ℤ, Bool, true, false, List, [], ◌∷◌, map, Option, None}
use Rattle.esc_manifest.specs.declared.row.MRow.{MRow}
use Rattle.esc_manifest.specs.Extension.{extended}
use Rattle.esc_events.specs.ArrivalValue.{ArrivalValue}

-- a manifest was taken in, an arrival was answered, a moment was set or taken back, or an early
-- arrival was answered: one that a store of version 1 took in
pub data EventValue : Type 0 where
  listed : List MRow → EventValue
  arrived : ArrivalValue → EventValue
  moved : Option ℤ → EventValue
  arrived_early : ArrivalValue → EventValue

-- the rows that are listed after the events, where m were listed before
abbrev pub union_after : List MRow → List EventValue → List MRow
union_after m [] = m
union_after m (listed more ∷ e) = union_after (extended m more) e
union_after m (arrived a ∷ e) = union_after m e
union_after m (moved t ∷ e) = union_after m e
union_after m (arrived_early a ∷ e) = union_after m e

-- the rows that are listed after the events: those of the first manifest, and then those of each
-- later one that weren't listed yet
abbrev pub union : List EventValue → List MRow
union e = union_after [] e

-- an arrival as it came: with the rows that were listed then, and whether it is an early one
pub record Coming : Type 0 where
  pub number : List ℕ
  pub body : List ℕ
  pub rows : List MRow
  pub early : Bool

abbrev pub coming : List MRow → ArrivalValue → Coming
coming m a = record { number = a.number; body = a.body; rows = m; early = false }

abbrev pub early_coming : List MRow → ArrivalValue → Coming
early_coming m a = record { number = a.number; body = a.body; rows = m; early = true }

-- the arrivals as they came, in order, where m were listed before
abbrev pub comings_after : List MRow → List EventValue → List Coming
comings_after m [] = []
comings_after m (listed more ∷ e) = comings_after (extended m more) e
comings_after m (arrived a ∷ e) = coming m a ∷ comings_after m e
comings_after m (moved t ∷ e) = comings_after m e
comings_after m (arrived_early a ∷ e) = early_coming m a ∷ comings_after m e

-- the arrivals as they came, in order
abbrev pub comings : List EventValue → List Coming
comings e = comings_after [] e

abbrev pub arrival_of : Coming → ArrivalValue
arrival_of c = record { number = c.number; body = c.body }

-- the arrivals, in order
abbrev pub arrivals : List EventValue → List ArrivalValue
arrivals e = map arrival_of (comings e)

-- the moment that is set after the events, if one is, where t was set before
abbrev pub moment_after : Option ℤ → List EventValue → Option ℤ
moment_after t [] = t
moment_after t (listed more ∷ e) = moment_after t e
moment_after t (arrived a ∷ e) = moment_after t e
moment_after t (moved u ∷ e) = moment_after u e
moment_after t (arrived_early a ∷ e) = moment_after t e

-- the moment that was set last, if it was not taken back
abbrev pub last_moment : List EventValue → Option ℤ
last_moment e = moment_after None e

-- a manifest, and then arrivals
abbrev pub manifest_then : List MRow → List ArrivalValue → List EventValue
manifest_then m l = listed m ∷ map arrived l
