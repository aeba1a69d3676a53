-- Texts that are written piece by piece.
use Rattle.std.proofs.Common.{◌≡◌, ℕ, ◌+◌, ◌<◌, List, ◌∷◌, ◌++◌, length, get_or, drop, sym}
use Rattle.std.proofs.Common.{ap, ◌∙◌}
use Rattle.std.proofs.lemmas.List.{drop_more}
use Rattle.esc_store.specs.ReplyValue.{ReplyValue}
use Rattle.esc_check.specs.FindingValue.{FindingValue}
use Rattle.esc_csv.specs.Lines.{line_text}
use Rattle.esc_chain.specs.declared.gap.GapLine.{GapLine}
use Rattle.esc_reports.specs.GapsText.{gap_line, gap_lines_text}
use Rattle.esc_store.specs.declared.parked.ParkedBody.{ParkedBody}
use Rattle.esc_reports.specs.LinksText.{finding_line, findings_text}
use Rattle.esc_reports.specs.ParkedText.{parked_line, parked_lines}
use Rattle.esc_reports.specs.ReceiptsText.{receipt_line, replies_text}

-- the line of the first reply that is left
pub replies_more : (replies : List ReplyValue) (i : ℕ) (reply : ReplyValue)
    → i < length replies → reply ≡ get_or replies i reply
    → replies_text (drop i replies) ≡ line_text (receipt_line reply) ++ replies_text (drop (i + 1) replies)
replies_more replies i reply within is =
    ap replies_text (drop_more replies i reply within ∙ ap (λ (r : ReplyValue). r ∷ drop (i + 1) replies) (sym is))

-- the line of the first finding that is left
pub findings_more : (findings : List FindingValue) (i : ℕ) (finding : FindingValue)
    → i < length findings → finding ≡ get_or findings i finding
    → findings_text (drop i findings) ≡ line_text (finding_line finding) ++ findings_text (drop (i + 1) findings)
findings_more findings i finding within is =
    ap findings_text (drop_more findings i finding within
    ∙ ap (λ (f : FindingValue). f ∷ drop (i + 1) findings) (sym is))

-- the line of the first place that is left
pub gap_lines_more : (gaps : List GapLine) (i : ℕ) (gap : GapLine) → i < length gaps → gap ≡ get_or gaps i gap
    → gap_lines_text (drop i gaps) ≡ line_text (gap_line gap) ++ gap_lines_text (drop (i + 1) gaps)
gap_lines_more gaps i gap within is =
    ap gap_lines_text (drop_more gaps i gap within ∙ ap (λ (l : GapLine). l ∷ drop (i + 1) gaps) (sym is))

-- the line of the first body that is left
pub bodies_more : (bodies : List ParkedBody) (i : ℕ) (none : ParkedBody)
    → i < length bodies → parked_lines (drop i bodies)
    ≡ line_text (parked_line (get_or bodies i none)) ++ parked_lines (drop (i + 1) bodies)
bodies_more bodies i none within = ap parked_lines (drop_more bodies i none within)
