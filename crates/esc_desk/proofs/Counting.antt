-- Which of the arrivals count, with others after them, and of a manifest's arrivals.
use Rattle.std.proofs.Common.{◌≡◌, not, filter, List, [], ◌∷◌, ◌++◌, map, refl, ap, ◌∙◌}
use Rattle.std.proofs.lemmas.List.Elements.{filter-append}
use Rattle.sha2.specs.Sha256.{sha256}
use Rattle.esc_tables.specs.Reading.{reading}
use Rattle.esc_manifest.specs.declared.row.MRow.{MRow}
use Rattle.esc_events.specs.ArrivalValue.{ArrivalValue}
use Rattle.esc_events.specs.Events.{Coming, coming, manifest_then}
use Rattle.esc_events.specs.StateAfter.{is_lost, kept_arrivals}
use Rattle.esc_desk.proofs.EventLemmas.{comings_then}

-- those of a list of arrivals that count
abbrev pub counting : List Coming → List Coming
counting l = filter (λ c. not (is_lost sha256 reading c)) l

-- which arrivals count, of two lists
pub counting-append : (xs ys : List Coming) → counting (xs ++ ys) ≡ counting xs ++ counting ys
counting-append xs ys = filter-append (λ c. not (is_lost sha256 reading c)) xs ys

all_count : (m : List MRow) (l : List ArrivalValue) → counting (map (coming m) l) ≡ map (coming m) l
all_count m [] = refl
all_count m (a ∷ l) = ap (λ (cs : List Coming). coming m a ∷ cs) (all_count m l)

-- all arrivals after a manifest count
pub counted_then : (m : List MRow) (l : List ArrivalValue)
    → kept_arrivals sha256 reading (manifest_then m l) ≡ map (coming m) l
counted_then m l = ap counting (comings_then m l) ∙ all_count m l
