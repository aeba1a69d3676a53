-- What the acceptance of a rebuilt registry asks (this project's profile).
use Rattle.std.specs.Prelude.{ℕ, ℤ, List, [], ◌∷◌, Bool, true, false, not, ◌&&◌, ◌||◌, ◌==◌}
use Rattle.std.specs.Prelude.{nat_lt}
use Rattle.std.specs.Prelude.{int_lt, Option, Some, None, is_some, length, if◌then◌else◌, codes}
use Rattle.std.specs.List.{list_all, list_any}
use Rattle.std.specs.Ordering.{int_eq}
use Rattle.esc_envelope.specs.declared.kind.Kind.{Kind}
use Rattle.esc_envelope.specs.declared.place.Place.{Place}
use Rattle.esc_envelope.specs.EnvelopeValue.{TableValue}
use Rattle.esc_envelope.specs.Kinds.{is_kind, kinds}
use Rattle.esc_envelope.specs.Place.{rank}
use Rattle.esc_chain.specs.declared.gap.GapLine.{GapLine}
use Rattle.esc_chain.specs.declared.gap.State.{State}
use Rattle.esc_chain.specs.declared.gap.State.TheVariants as state
use Rattle.esc_check.specs.FindingValue.{FindingValue}
use Rattle.esc_conformity.specs.declared.rule.Rule.{Rule}
use Rattle.esc_conformity.specs.declared.rule.Rule.TheVariants.{Registrars, Nndns, Roids}
use Rattle.esc_conformity.specs.declared.rule.Rule.TheVariants.{Required, Outside, Digests}
use Rattle.esc_conformity.specs.declared.rule.Rule.TheVariants.{Addresses}
use Rattle.esc_conformity.specs.declared.found.Flaws.{Flaws}
use Rattle.esc_conformity.specs.Flaws.{rule_name}
use Rattle.esc_conformity.specs.Found.{keys_by}
use Rattle.esc_acceptance.specs.declared.test.Test.{Test}
use Rattle.esc_acceptance.specs.declared.test.Test.TheVariants as test
use Rattle.esc_acceptance.specs.declared.guide.Guide.{Guide}
use Rattle.esc_acceptance.specs.Guides.{guides, is_wanted, is_guide_declared, is_disguise}

-- what was seen of a store: how many TLDs the held deposits name; the moment that is set, what time
-- it is, the chain's end, whether the chain is the latest one, the line of each listed place; how
-- many bodies are parked, how many arrivals are early ones without a body, the findings, and which
-- objects break each rule; the objects and the declared numbers by kind, the tables that the chain's
-- deposits declare, which guides some object lacks, how many orphans the deposits have, how many
-- held bodies aren't what their rows list, whether those of the chain are deposits, and whether the
-- tables are what they make; and the notes in them
pub record SeenValue : Type 0 where
  pub tlds : ℕ
  pub moment : Option ℤ
  pub clock : Option ℤ
  pub end : Option Place
  pub is_latest : Bool
  pub gaps : List GapLine
  pub parked : ℕ
  pub early : ℕ
  pub findings : List FindingValue
  pub flaws : Flaws
  pub objects : List (Kind × ℕ)
  pub counts : List (Kind × ℕ)
  pub tables : List TableValue
  pub lacking : List Guide
  pub orphans : ℕ
  pub spoiled : ℕ
  pub are_read : Bool
  pub is_rebuilt : Bool
  pub notes : List (List ℕ)

-- whether a place is after another
abbrev pub is_after : Place → Place → Bool
is_after p q = int_lt q.watermark p.watermark
    || (int_eq q.watermark p.watermark && nat_lt (rank q.kind) (rank p.kind))

-- whether a watermark is not later than the moment, if there is one
abbrev pub is_by : Option ℤ → ℤ → Bool
is_by None w = true
is_by (Some t) w = not (int_lt t w)

-- whether the chain's end is not later than now, if both are known
abbrev pub is_past : Option ℤ → Option Place → Bool
is_past now None = true
is_past now (Some p) = is_by now p.watermark

-- whether a listed place counts, and is after this one
abbrev pub is_later : Option ℤ → Place → GapLine → Bool
is_later moment p g = is_by moment g.place.watermark && is_after g.place p

-- whether no place counts that is after this one, the end of the chain; there has to be a chain
abbrev pub is_end : Option ℤ → List GapLine → Option Place → Bool
is_end moment gaps None = false
is_end moment gaps (Some p) = list_all (λ g. not (is_later moment p g)) gaps

-- whether a place is in the chain, and a later revision of it is awaited
abbrev pub is_in_chain : State → Bool
is_in_chain state.Missing = false
is_in_chain state.Blocked = false
is_in_chain state.Chain = true
is_in_chain state.Standing = false

abbrev pub is_outdated : GapLine → Bool
is_outdated g = is_in_chain g.state && is_some g.awaited

-- whether a place is missing or blocked
abbrev pub is_open : State → Bool
is_open state.Missing = true
is_open state.Blocked = true
is_open state.Chain = false
is_open state.Standing = false

-- whether a place is missing or blocked, and the chain goes past it
abbrev pub is_passed : Option Place → GapLine → Bool
is_passed None g = false
is_passed (Some p) g = is_open g.state && is_after p g.place

-- whether the number of a kind's objects is declared
abbrev pub is_counted : List (Kind × ℕ) → Kind → Bool
is_counted counts k = list_any (λ c. is_kind c.0 k) counts

-- what each test asks
abbrev pub passes : Test → SeenValue → Bool
passes test.Tld s = nat_lt s.tlds 2
passes test.End s = is_end s.moment s.gaps s.end
passes test.Future s = is_past s.clock s.end
passes test.Chain s = s.is_latest
passes test.Resends s = list_all (λ g. not (is_outdated g)) s.gaps
passes test.Gaps s = list_all (λ g. not (is_passed s.end g)) s.gaps
passes test.Moment s = not (is_some s.moment)
passes test.Parked s = s.parked == 0
passes test.Early s = s.early == 0
passes test.Findings s = length s.findings == 0
passes (test.Conforms rule) s = length (keys_by s.flaws rule) == 0
passes test.Orphans s = s.orphans == 0
passes test.Counts s = list_all (is_counted s.counts) kinds
passes test.Fields s =
    list_all (λ g. not (is_wanted s.objects g) || is_guide_declared s.tables g) guides
    && not (list_any (is_wanted s.objects) s.lacking)
passes test.Names s = list_all (λ g. not (list_any (is_disguise g) s.tables)) guides
passes test.Bodies s = (s.spoiled == 0) && s.are_read
passes test.Tables s = s.is_rebuilt
passes test.Notes s = length s.notes == 0

-- all tests, in the order in which they are told
unfoldable pub tests : List Test
tests =
    test.Tld ∷ test.End ∷ test.Future ∷ test.Chain ∷ test.Resends ∷ test.Gaps ∷ test.Moment ∷
    test.Parked ∷ test.Early ∷ test.Findings ∷ test.Conforms Registrars ∷ test.Conforms Nndns ∷
    test.Conforms Roids ∷ test.Conforms Required ∷ test.Conforms Outside ∷ test.Conforms Digests ∷
    test.Conforms Addresses ∷ test.Orphans ∷ test.Counts ∷ test.Fields ∷ test.Names ∷
    test.Bodies ∷ test.Tables ∷ test.Notes ∷ []

-- whether a registry may be taken over where objects break a rule
abbrev pub is_rule_told : Rule → Bool
is_rule_told Registrars = false
is_rule_told Nndns = false
is_rule_told Roids = true
is_rule_told Required = true
is_rule_told Outside = true
is_rule_told Digests = true
is_rule_told Addresses = true

-- whether a registry may be taken over where a test fails: then it is only told
abbrev pub is_told_alone : Test → Bool
is_told_alone test.Tld = false
is_told_alone test.End = false
is_told_alone test.Future = false
is_told_alone test.Chain = false
is_told_alone test.Resends = false
is_told_alone test.Gaps = true
is_told_alone test.Moment = true
is_told_alone test.Parked = false
is_told_alone test.Early = true
is_told_alone test.Findings = false
is_told_alone (test.Conforms rule) = is_rule_told rule
is_told_alone test.Orphans = false
is_told_alone test.Counts = false
is_told_alone test.Fields = false
is_told_alone test.Names = false
is_told_alone test.Bodies = false
is_told_alone test.Tables = false
is_told_alone test.Notes = true

-- whether a registry may be taken over: each test passes, but for those that are only told
abbrev pub is_accepted : SeenValue → Bool
is_accepted s = list_all (λ t. is_told_alone t || passes t s) tests

-- the status: 0 exactly where the registry may be taken over; a strict one only where nothing is
-- told either
abbrev pub status_of : Bool → SeenValue → ℕ
status_of true s = if list_all (λ t. passes t s) tests then 0 else 1
status_of false s = if is_accepted s then 0 else 1

-- the name of a test
abbrev pub test_name : Test → List ℕ
test_name test.Tld = codes "tld"
test_name test.End = codes "end"
test_name test.Future = codes "future"
test_name test.Chain = codes "chain"
test_name test.Resends = codes "resends"
test_name test.Gaps = codes "gaps"
test_name test.Moment = codes "moment"
test_name test.Parked = codes "parked"
test_name test.Early = codes "early"
test_name test.Findings = codes "findings"
test_name (test.Conforms rule) = rule_name rule
test_name test.Orphans = codes "orphans"
test_name test.Counts = codes "counts"
test_name test.Fields = codes "fields"
test_name test.Names = codes "names"
test_name test.Bodies = codes "bodies"
test_name test.Tables = codes "tables"
test_name test.Notes = codes "notes"
