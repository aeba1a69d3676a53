-- More events, in what is listed, in the arrivals as they came, and in the moment that is set.
use Rattle.std.proofs.Common.{◌≡◌, ℤ, not, List, [], ◌∷◌, ◌++◌, map, Option, None, refl, ap}
use Rattle.std.proofs.Common.{◌∙◌, append-nil}
use Rattle.std.specs.Prelude.{filter}
use Rattle.esc_manifest.specs.declared.row.MRow.{MRow}
use Rattle.esc_manifest.specs.Extension.{is_listed, extended}
use Rattle.esc_events.specs.ArrivalValue.{ArrivalValue}
use Rattle.esc_events.specs.Events.{EventValue, Coming, union_after, union, coming, early_coming}
use Rattle.esc_events.specs.Events.{comings_after, comings, arrival_of, arrivals, moment_after}
use Rattle.esc_events.specs.Events.{last_moment, manifest_then}
use Rattle.esc_events.specs.Events.EventValue.{listed, arrived, moved, arrived_early}

-- ---- events, and then others

-- the listed rows of two lists of events
pub union_on : (m : List MRow) (e f : List EventValue) → union_after m (e ++ f) ≡ union_after (union_after m e) f
union_on m [] f = refl
union_on m (listed more ∷ e) f = union_on (extended m more) e f
union_on m (arrived b ∷ e) f = union_on m e f
union_on m (moved t ∷ e) f = union_on m e f
union_on m (arrived_early b ∷ e) f = union_on m e f

-- the arrivals of two lists of events
pub comings_on : (m : List MRow) (e f : List EventValue)
    → comings_after m (e ++ f) ≡ comings_after m e ++ comings_after (union_after m e) f
comings_on m [] f = refl
comings_on m (listed more ∷ e) f = comings_on (extended m more) e f
comings_on m (arrived b ∷ e) f = ap (λ (l : List Coming). coming m b ∷ l) (comings_on m e f)
comings_on m (moved t ∷ e) f = comings_on m e f
comings_on m (arrived_early b ∷ e) f = ap (λ (l : List Coming). early_coming m b ∷ l) (comings_on m e f)

-- the moment after two lists of events
pub moment_on : (t : Option ℤ) (e f : List EventValue)
    → moment_after t (e ++ f) ≡ moment_after (moment_after t e) f
moment_on t [] f = refl
moment_on t (listed more ∷ e) f = moment_on t e f
moment_on t (arrived b ∷ e) f = moment_on t e f
moment_on t (moved u ∷ e) f = moment_on u e f
moment_on t (arrived_early b ∷ e) f = moment_on t e f

-- ---- one event more

-- an arrival lists no row
pub union-arrived : (e : List EventValue) (a : ArrivalValue) → union (e ++ arrived a ∷ []) ≡ union e
union-arrived e a = union_on [] e (arrived a ∷ [])

-- an arrival is one more of the arrivals
pub comings-arrived : (e : List EventValue) (a : ArrivalValue)
    → comings (e ++ arrived a ∷ []) ≡ comings e ++ coming (union e) a ∷ []
comings-arrived e a = comings_on [] e (arrived a ∷ [])

-- an arrival sets no moment
pub moment-arrived : (e : List EventValue) (a : ArrivalValue) → last_moment (e ++ arrived a ∷ []) ≡ last_moment e
moment-arrived e a = moment_on None e (arrived a ∷ [])

-- an amendment lists its rows
pub union-listed : (e : List EventValue) (more : List MRow)
    → union (e ++ listed more ∷ []) ≡ extended (union e) more
union-listed e more = union_on [] e (listed more ∷ [])

-- an amendment is no arrival
pub comings-listed : (e : List EventValue) (more : List MRow) → comings (e ++ listed more ∷ []) ≡ comings e
comings-listed e more = comings_on [] e (listed more ∷ []) ∙ append-nil (comings e)

-- an amendment sets no moment
pub moment-listed : (e : List EventValue) (more : List MRow) → last_moment (e ++ listed more ∷ []) ≡ last_moment e
moment-listed e more = moment_on None e (listed more ∷ [])

-- a moment lists no row
pub union-moved : (e : List EventValue) (t : Option ℤ) → union (e ++ moved t ∷ []) ≡ union e
union-moved e t = union_on [] e (moved t ∷ [])

-- a moment is no arrival
pub comings-moved : (e : List EventValue) (t : Option ℤ) → comings (e ++ moved t ∷ []) ≡ comings e
comings-moved e t = comings_on [] e (moved t ∷ []) ∙ append-nil (comings e)

-- a moment that is set is the last one
pub moment-moved : (e : List EventValue) (t : Option ℤ) → last_moment (e ++ moved t ∷ []) ≡ t
moment-moved e t = moment_on None e (moved t ∷ [])

-- ---- a manifest, and then arrivals

-- where no row is listed all rows are new
pub none_is_listed : (m : List MRow) → filter (λ r. not (is_listed [] r)) m ≡ m
none_is_listed [] = refl
none_is_listed (r ∷ m) = ap (λ (l : List MRow). r ∷ l) (none_is_listed m)

union_of_arrivals : (m : List MRow) (l : List ArrivalValue) → union_after m (map arrived l) ≡ m
union_of_arrivals m [] = refl
union_of_arrivals m (a ∷ l) = union_of_arrivals m l

comings_of_arrivals : (m : List MRow) (l : List ArrivalValue) → comings_after m (map arrived l) ≡ map (coming m) l
comings_of_arrivals m [] = refl
comings_of_arrivals m (a ∷ l) = ap (λ (cs : List Coming). coming m a ∷ cs) (comings_of_arrivals m l)

-- the rows of a manifest and of arrivals after it are the manifest's
pub union_then : (m : List MRow) (l : List ArrivalValue) → union (manifest_then m l) ≡ m
union_then m l = union_of_arrivals (extended [] m) l ∙ none_is_listed m

-- the arrivals after a manifest, as they came
pub comings_then : (m : List MRow) (l : List ArrivalValue) → comings (manifest_then m l) ≡ map (coming m) l
comings_then m l = comings_of_arrivals (extended [] m) l
    ∙ ap (λ (n : List MRow). map (coming n) l) (none_is_listed m)

arrivals_back : (m : List MRow) (l : List ArrivalValue) → map arrival_of (map (coming m) l) ≡ l
arrivals_back m [] = refl
arrivals_back m (a ∷ l) = ap (λ (back : List ArrivalValue). a ∷ back) (arrivals_back m l)

-- the arrivals after a manifest
pub arrivals_then : (m : List MRow) (l : List ArrivalValue) → arrivals (manifest_then m l) ≡ l
arrivals_then m l = ap (map arrival_of) (comings_then m l) ∙ arrivals_back m l
