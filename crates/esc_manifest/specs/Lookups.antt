-- The place of an id, looked up.
use Rattle.std.specs.Prelude.{◌≡◌, ◌<◌, ℕ, ℤ, List, length, Bool, false, not, ◌&&◌, int_lt, Option}
use Rattle.std.specs.Prelude.{Some, None}
use Rattle.std.specs.BTreeMap as tree
use Rattle.std.specs.BTreeMap.{BTreeMap}
use Rattle.std.specs.Cmp.Lexicographic.{slice_cmp}
use Rattle.std.specs.Ordering.{nat_cmp}
use denote.Ref.{Bor}
use Rattle.esc_envelope.specs.declared.place.Place.{Place}
use Rattle.esc_manifest.specs.declared.row.MRow.{MRow}
use Rattle.esc_manifest.specs.RowFaults.{is_some_id, is_diff}
use Rattle.esc_manifest.specs.ManifestRows.{id_at, place_at}

-- the place that a map has for an id
abbrev pub place_in : BTreeMap (Bor (List ℕ)) Place → List ℕ → Option Place
place_in places id = tree.get_by (λ k. slice_cmp nat_cmp id k.now) places

-- for the id of each row, the map has the row's place
abbrev pub HavePlaces : List MRow → BTreeMap (Bor (List ℕ)) Place → Type 0
HavePlaces m places = (r : ℕ) → r < length m → place_in places (id_at m r) ≡ Some (place_at m r)

-- there is a place, and its watermark isn't earlier than a moment
abbrev pub is_no_earlier : Option Place → ℤ → Bool
is_no_earlier None moment = false
is_no_earlier (Some place) moment = not (int_lt place.watermark moment)

-- a Differential whose prevId has a place in the map with a watermark that isn't earlier
abbrev pub names_later : BTreeMap (Bor (List ℕ)) Place → MRow → Bool
names_later places row =
    is_diff row.header.place.kind
    && is_some_id (λ id. is_no_earlier (place_in places id) row.header.place.watermark)
    row.header.prev
