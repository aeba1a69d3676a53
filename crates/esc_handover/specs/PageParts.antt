-- What an operator reads on a page: how many objects of each kind there are and are declared, and
-- how many findings of each rule (this project's profile).
use Rattle.std.specs.Prelude.{◌≡◌, ◌<◌, ◌==◌, ℕ, List, [], ◌∷◌, ◌++◌, Option, Some, None, IfSome}
use Rattle.std.specs.Prelude.{option_map, unwrap_or, count_by, codes}
use Rattle.std.specs.List.{find}
use Rattle.std.specs.Fmt.{decimal}
use Rattle.esc_envelope.specs.declared.kind.Kind.{Kind}
use Rattle.esc_envelope.specs.Kinds.{is_kind, kind_name}
use Rattle.esc_check.specs.declared.rule.Rule.{Rule}
use Rattle.esc_check.specs.declared.rule.Rule.TheVariants.{LinkTarget, ObjectCount, KnownStatus}
use Rattle.esc_check.specs.declared.rule.Rule.TheVariants.{OkAlone, CreatedBefore, ExpiresAfter}
use Rattle.esc_check.specs.declared.rule.Rule.TheVariants.{DateForm}
use Rattle.esc_check.specs.Rules.{rule_number}
use Rattle.esc_check.specs.FindingValue.{FindingValue}
use Rattle.esc_html.specs.declared.tag.Tag.TheVariants as tag
use Rattle.esc_html.specs.declared.attribute.Attribute.TheVariants as attribute
use Rattle.esc_html.specs.Escape.{escaped}
use Rattle.esc_html.specs.Markup.{element_text}

-- a text has a piece in it
abbrev pub IsPiece : List ℕ → List ℕ → Type 0
IsPiece piece text = (before after : List ℕ) × (text ≡ before ++ piece ++ after)

-- one piece of a page is in another one, unless memory was refused
abbrev pub IsWithin : Option (List ℕ) → Option (List ℕ) → Type 0
IsWithin piece whole =
    IfSome whole (λ text. (part : List ℕ) × (piece ≡ Some part) × IsPiece part text)

-- ---- the objects of each kind

-- the number for a kind, if there is one
abbrev pub number_of : List (Kind × ℕ) → Kind → Option ℕ
number_of numbers k = option_map (λ n. n.1) (find (λ n. is_kind n.0 k) numbers)

-- the cell with which a row begins
abbrev pub heading_cell : List ℕ → List ℕ
heading_cell text = element_text tag.Heading ((attribute.Scope, codes "row") ∷ []) (escaped text)

-- a cell with a number, or with nothing
abbrev pub number_cell : Option ℕ → List ℕ
number_cell None = element_text tag.Cell [] []
number_cell (Some n) = element_text tag.Cell [] (escaped (decimal n))

-- next to one another: a kind, how many objects of it there are, and how many are declared
abbrev pub numbers_text : Kind → ℕ → Option ℕ → List ℕ
numbers_text k there declared =
    heading_cell (kind_name k) ++ number_cell (Some there) ++ number_cell declared

-- these of a kind, by the objects that there are and the numbers that are declared
abbrev pub kind_cells_text : List (Kind × ℕ) → List (Kind × ℕ) → Kind → List ℕ
kind_cells_text objects counts k =
    numbers_text k (unwrap_or (number_of objects k) 0) (number_of counts k)

-- a piece of a page has the cells of a kind
abbrev pub HasKind : List (Kind × ℕ) → List (Kind × ℕ) → Option (List ℕ) → Kind → Type 0
HasKind objects counts html k = IsWithin (Some (kind_cells_text objects counts k)) html

-- the cells of each kind are on a page
abbrev pub TellsKinds : List (Kind × ℕ) → List (Kind × ℕ) → List ℕ → Type 0
TellsKinds objects counts page = (k : Kind) → IsPiece (kind_cells_text objects counts k) page

-- ---- the findings of each rule

-- the rules, in the order of the page
unfoldable pub page_rules : List Rule
page_rules = LinkTarget ∷ ObjectCount ∷ KnownStatus ∷ OkAlone ∷ CreatedBefore ∷ ExpiresAfter
    ∷ DateForm ∷ []

-- what a finding of a rule means
abbrev pub rule_words : Rule → List ℕ
rule_words LinkTarget = codes "V1: a link leads to no object"
rule_words ObjectCount = codes "V2: a kind has another number of objects than declared"
rule_words KnownStatus = codes "V3: a status is none of its kind's"
rule_words OkAlone = codes "V4: a domain is ok, and has another status"
rule_words CreatedBefore = codes "V5: created after the chain's end"
rule_words ExpiresAfter = codes "V6: expires before it was created"
rule_words DateForm = codes "V7: a date has another form, or is no date"

-- how many findings of a rule there are
abbrev pub findings_by : List FindingValue → Rule → ℕ
findings_by findings rule = count_by (λ f. f.code == rule_number rule) findings

-- a heading with a number
abbrev pub counted_heading : List ℕ → ℕ → List ℕ
counted_heading words n =
    element_text tag.H3 [] (escaped words ++ escaped (codes ": ") ++ escaped (decimal n))

-- the heading of a rule: what a finding of it means, and how many there are
abbrev pub rule_heading_text : List FindingValue → Rule → List ℕ
rule_heading_text findings rule = counted_heading (rule_words rule) (findings_by findings rule)

-- a piece of a page has the heading of a rule, if there are findings of it
abbrev pub HasRule : List FindingValue → Option (List ℕ) → Rule → Type 0
HasRule findings html rule =
    0 < findings_by findings rule → IsWithin (Some (rule_heading_text findings rule)) html

-- the heading of each rule of which there are findings is on a page
abbrev pub TellsRules : List FindingValue → List ℕ → Type 0
TellsRules findings page =
    (rule : Rule) → 0 < findings_by findings rule → IsPiece (rule_heading_text findings rule) page
