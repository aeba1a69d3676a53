-- The report of gaps (this project's profile).
use Rattle.std.specs.Prelude.{◌≡◌, ℕ, ℤ, List, [], ◌∷◌, ◌++◌, map, codes, Option, option_map}
use Rattle.std.specs.FinSet as set
use Rattle.std.specs.Fmt.{decimal}
use Rattle.esc_envelope.specs.Members.{type_name}
use Rattle.esc_envelope.specs.Watermark.{printed}
use Rattle.esc_manifest.specs.declared.row.MRow.{MRow}
use Rattle.esc_chain.specs.declared.gap.GapLine.{GapLine}
use Rattle.esc_chain.specs.Gap.{AreGapLinesAt}
use Rattle.esc_chain.specs.GapTexts.{state_text, blocker_text}
use Rattle.esc_csv.specs.Lines.{Line, line_text, text_of}
use Rattle.esc_reports.specs.ReceiptsText.{or_empty}

-- the first line
abbrev pub gaps_heading : Line
gaps_heading = codes "watermark" ∷ codes "type" ∷ codes "used" ∷ codes "state" ∷ codes "blocker"
    ∷ codes "awaited" ∷ []

-- the line of a place; a value that isn't there is empty
abbrev pub gap_line : GapLine → Line
gap_line l =
    printed l.place.watermark ∷ type_name l.place.kind ∷ or_empty (option_map decimal l.used)
    ∷ state_text l.state
    ∷ or_empty (option_map blocker_text l.blocker) ∷ or_empty (option_map decimal l.awaited)
    ∷ []

-- the lines of places
abbrev pub gap_lines_text : List GapLine → List ℕ
gap_lines_text lines = text_of (map gap_line lines)

-- the report: the heading, and a line for each place
abbrev pub gaps_text : List GapLine → List ℕ
gaps_text lines = line_text gaps_heading ++ gap_lines_text lines

-- this is the report of a manifest's places, by the rows that are held and the moment that is set
pub record IsGapsReport (m : List MRow) (rows : List ℕ) (t : Option ℤ)
    (text : List ℕ) : Type 0 where
  pub lines : List GapLine
  pub gaps : AreGapLinesAt m (set.from_list rows) t lines
  pub is : text ≡ gaps_text lines
