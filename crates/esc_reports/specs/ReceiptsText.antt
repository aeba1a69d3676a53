-- The report of receipts (this project's profile).
use Rattle.std.specs.Prelude.{ℕ, List, [], ◌∷◌, ◌++◌, map, codes, Option, option_map}
use Rattle.std.specs.Fmt.{decimal}
use Rattle.std.specs.Option.{unwrap_or}
use Rattle.esc_store.specs.ReplyValue.{ReplyValue}
use Rattle.esc_csv.specs.Lines.{Line, line_text, text_of}
use Rattle.esc_reports.specs.Words.{verdict_word, copy_word, verdict_fault}

-- the first line
abbrev pub receipts_heading : Line
receipts_heading = codes "receipt" ∷ codes "number" ∷ codes "verdict" ∷ codes "fault" ∷ codes "id"
    ∷ codes "resend" ∷ codes "copy" ∷ codes "orphans" ∷ []

-- a value that isn't there is empty
abbrev pub or_empty : Option (List ℕ) → List ℕ
or_empty text = unwrap_or text []

-- the line of a reply
abbrev pub receipt_line : ReplyValue → Line
receipt_line r =
    decimal r.receipt ∷ r.number ∷ verdict_word r.verdict ∷ or_empty (verdict_fault r.verdict)
    ∷ or_empty r.id
    ∷ or_empty (option_map decimal r.resend) ∷ or_empty (option_map copy_word r.again)
    ∷ or_empty (option_map decimal r.orphans) ∷ []

-- the lines of replies
abbrev pub replies_text : List ReplyValue → List ℕ
replies_text replies = text_of (map receipt_line replies)

-- the report: the heading, and a line for each reply
abbrev pub receipts_text : List ReplyValue → List ℕ
receipts_text replies = line_text receipts_heading ++ replies_text replies
