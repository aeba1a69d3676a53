-- The report of links, and of what else breaks a rule, V1 to V7 (this project's profile).
use Rattle.std.specs.Prelude.{ℕ, List, [], ◌∷◌, ◌++◌, map, codes}
use Rattle.std.specs.Fmt.{decimal}
use Rattle.esc_envelope.specs.Kinds.{kind_name}
use Rattle.esc_check.specs.FindingValue.{FindingValue}
use Rattle.esc_csv.specs.Lines.{Line, line_text, text_of}

-- the first line
abbrev pub links_heading : Line
links_heading = codes "code" ∷ codes "kind" ∷ codes "key" ∷ codes "field" ∷ codes "value"
    ∷ codes "other" ∷ []

-- V and the rule's number
abbrev pub code_text : ℕ → List ℕ
code_text n = codes "V" ++ decimal n

-- the line of a finding
abbrev pub finding_line : FindingValue → Line
finding_line f = code_text f.code ∷ kind_name f.kind ∷ f.key ∷ f.field ∷ f.value ∷ f.other ∷ []

-- the lines of findings
abbrev pub findings_text : List FindingValue → List ℕ
findings_text findings = text_of (map finding_line findings)

-- the report: the heading, and a line for each finding
abbrev pub links_text : List FindingValue → List ℕ
links_text findings = line_text links_heading ++ findings_text findings
