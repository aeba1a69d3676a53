-- Lines that were written are read back.
use Rattle.std.proofs.Common.{◌≡◌, ℕ, List, [], ◌∷◌, ◌++◌, map, refl, ap, ◌∙◌}
use Rattle.csv.specs.Machine.{next_record}
use Rattle.csv.specs.Writing.{default_writer, escaped, field_text, fields_text, is_blank, row_text, read_back}
use Rattle.csv.specs.declared.parser.State.TheVariants as st
use Rattle.csv.proofs.RoundTrip.{read-write}
use Rattle.esc_csv.specs.Between.{records_at}
use Rattle.esc_csv.specs.Lines.{Line, line_writer, line_text, text_of}
use Rattle.esc_csv.specs.Records.{records_of, IsUnmarked}
use Rattle.esc_csv.proofs.RecordsLeft.{none_left, one_less}

-- a line is written as the library's default writer does
escaped_same : (field : List ℕ) → escaped line_writer field ≡ escaped default_writer field
unfolding escaped
escaped_same [] = refl
escaped_same (b ∷ rest) = rw (escaped_same rest) refl

field_same : (field : List ℕ) → field_text line_writer field ≡ field_text default_writer field
field_same field = rw (escaped_same field) refl

fields_same : (fields : List (List ℕ)) → fields_text line_writer fields ≡ fields_text default_writer fields
unfolding fields_text
fields_same [] = refl
fields_same (field ∷ rest) = rw (field_same field, fields_same rest) refl

line_same : (fields : Line) → line_text fields ≡ row_text default_writer fields
unfolding is_blank
line_same [] = refl
line_same (field ∷ []) = rw (field_same field, fields_same []) refl
line_same (field ∷ next ∷ rest) = rw (field_same field, fields_same (next ∷ rest)) refl

line_read : (fields : Line) (tail : List ℕ) → records_at st.StartRecord (line_text fields ++ tail)
    ≡ read_back fields ∷ records_at st.StartRecord tail
line_read fields tail = rw (line_same fields)
    (one_less st.StartRecord _ (read_back fields, st.StartRecord, tail) refl (read-write fields tail))

lines_read : (lines : List Line) → records_at st.StartRecord (text_of lines) ≡ map read_back lines
unfolding next_record
lines_read [] = none_left st.StartRecord [] refl
lines_read (fields ∷ rest) = line_read fields (text_of rest)
    ∙ ap (λ (records : List Line). read_back fields ∷ records) (lines_read rest)

-- lines that were written are read back
pub read_back_whole : (lines : List Line)
    → IsUnmarked (text_of lines) → records_of (text_of lines) ≡ map read_back lines
read_back_whole lines unmarked = ap (records_at st.StartRecord) unmarked ∙ lines_read lines
