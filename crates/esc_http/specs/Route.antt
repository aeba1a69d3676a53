-- Where the path of a request leads (this project's profile).
use Rattle.std.specs.Prelude.{ℕ, List, [], ◌∷◌, Bool, false, if◌then◌else◌, ◌==◌, nat_eq, not}
use Rattle.std.specs.Prelude.{length, drop, codes, Option, Some, None, option_map, option_and_then}
use Rattle.std.specs.List.{starts_with, list_any}
use Rattle.std.specs.Str.{bytes_eq}
use Rattle.esc_envelope.specs.Kinds.{kind_named}
use Rattle.esc_reports.specs.declared.catalog.Report.{Report}
use Rattle.esc_reports.specs.declared.catalog.Report.TheVariants.{Status, Gaps, Links, Receipts}
use Rattle.esc_reports.specs.declared.catalog.Report.TheVariants.{Parked, Moment, Export}
use Rattle.esc_http.specs.declared.route.Target.{Target}
use Rattle.esc_http.specs.declared.route.Target.TheVariants as to
use Rattle.esc_http.specs.declared.route.Route.{Route}
use Rattle.esc_http.specs.declared.route.Route.TheVariants as way

-- to the arrival with this number, or to a report
pub data Destination : Type 0 where
  arrival : List ℕ → Destination
  a_report : Report → Destination

-- what comes after this beginning of a text, if the text begins with it
abbrev pub strip : List ℕ → List ℕ → Option (List ℕ)
strip front text = if starts_with nat_eq text front then Some (drop (length front) text) else None

-- a segment of a path that isn't empty: no slash is in it
abbrev pub is_segment : List ℕ → Bool
is_segment [] = false
is_segment (b ∷ bytes) = not (list_any (λ c. c == 47) (b ∷ bytes))

abbrev pub if_segment : List ℕ → Option (List ℕ)
if_segment text = if is_segment text then Some text else None

-- the one segment after this beginning of a path, if nothing else comes after it
abbrev pub segment_after : List ℕ → List ℕ → Option (List ℕ)
segment_after front path = option_and_then if_segment (strip front path)

-- the export of the kind with this name, if there is one
abbrev pub export_named : List ℕ → Option Destination
export_named name = option_map (λ kind. a_report (Export kind)) (kind_named name)

-- where a path leads: /status, /gaps, /links, /receipts, /parked, /moment, /arrivals/ and a number,
-- /export/ and a kind; nothing is decoded
abbrev pub route_of : List ℕ → Option Destination
route_of path =
    if bytes_eq (codes "/status") path then Some (a_report Status)
    else (if bytes_eq (codes "/gaps") path then Some (a_report Gaps)
    else (if bytes_eq (codes "/links") path then Some (a_report Links)
    else (if bytes_eq (codes "/receipts") path then Some (a_report Receipts)
    else (if bytes_eq (codes "/parked") path then Some (a_report Parked)
    else (if bytes_eq (codes "/moment") path then Some (a_report Moment)
    else (if starts_with nat_eq path (codes "/arrivals/") then option_map arrival
    (segment_after (codes "/arrivals/") path)
    else option_and_then export_named (segment_after (codes "/export/") path)))))))

-- where a path leads, by the target that the router has for it
abbrev pub way_to : Target → List ℕ → Option Destination
way_to to.Arrivals path = option_map arrival (strip (codes "/arrivals/") path)
way_to to.Export path = option_and_then export_named (strip (codes "/export/") path)
way_to (to.Report report) path = Some (a_report report)

-- where a route leads, by what contracts see of the path's text
abbrev pub route_seen : Route → Destination
route_seen (way.Arrival number) = arrival number.now
route_seen (way.Report report) = a_report report
