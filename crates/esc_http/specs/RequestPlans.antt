-- What the head of a request asks for: the tests that need no body, in their order (this project's
-- profile).
use Rattle.std.specs.Prelude.{ℕ, List, if◌then◌else◌, ◌==◌, map, codes, Option, Some, None}
use Rattle.std.specs.List.{before_first}
use Rattle.std.specs.Str.{bytes_eq}
use Rattle.httparse.specs.Grammar.{RequestHead}
use Rattle.httparse.specs.Spans.{name_and_value}
use Rattle.esc_envelope.specs.Id.{is_id}
use Rattle.esc_request.specs.declared.length.BodyLength.{BodyLength}
use Rattle.esc_request.specs.declared.length.BodyLength.TheVariants.{Bytes, Missing, Malformed}
use Rattle.esc_request.specs.declared.length.BodyLength.TheVariants.{TooLong}
use Rattle.esc_reports.specs.declared.catalog.Report.{Report}
use Rattle.esc_request.specs.declared.refusal.Refusal.TheVariants.{BadRequest, NotFound, PutOnly}
use Rattle.esc_request.specs.declared.refusal.Refusal.TheVariants.{GetOnly, BadNumber}
use Rattle.esc_request.specs.declared.refusal.Refusal.TheVariants.{LengthRequired, TooLarge}
use Rattle.esc_http.specs.declared.request_plan.RequestPlan.{RequestPlan}
use Rattle.esc_http.specs.declared.request_plan.RequestPlan.TheVariants.{Refuse, Put, Get}
use Rattle.esc_request.specs.BodyLength.{HeaderLine, body_length}
use Rattle.esc_http.specs.Route.{Destination, arrival, a_report, route_of}

-- the target up to its first question mark (63)
abbrev pub path_of : List ℕ → List ℕ
path_of target = before_first (λ b. b == 63) target

-- an arrival whose body has the length that the header lines say
abbrev pub plan_sized : List ℕ → BodyLength → RequestPlan
plan_sized number (Bytes n) = Put number n
plan_sized number Missing = Refuse LengthRequired
plan_sized number Malformed = Refuse BadRequest
plan_sized number TooLong = Refuse TooLarge

-- at the route of an arrival: the method, the number's form, the length
abbrev pub plan_to_put : List ℕ → List ℕ → List HeaderLine → RequestPlan
plan_to_put method number lines =
    if bytes_eq method (codes "PUT") then
    (if is_id number then plan_sized number (body_length lines) else Refuse BadNumber) else
    Refuse PutOnly

-- at the route of a report: the method
abbrev pub plan_to_get : List ℕ → Report → RequestPlan
plan_to_get method report = if bytes_eq method (codes "GET") then Get report else Refuse GetOnly

-- at a route, if the path has one
abbrev pub plan_on : Option Destination → List ℕ → List HeaderLine → RequestPlan
plan_on None method lines = Refuse NotFound
plan_on (Some (arrival number)) method lines = plan_to_put method number lines
plan_on (Some (a_report report)) method lines = plan_to_get method report

-- what a method, a target and header lines ask for
abbrev pub plan_of : List ℕ → List ℕ → List HeaderLine → RequestPlan
plan_of method target lines = plan_on (route_of (path_of target)) method lines

-- what a head asks for
abbrev pub plan_of_head : RequestHead → RequestPlan
plan_of_head h = plan_of h.method h.target (map name_and_value h.fields)
