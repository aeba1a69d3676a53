-- The deposit of a bundle, or its least refusal (RFC 8909, section 2, and this project's profile).
use Rattle.std.specs.Prelude.{ℕ, List, [], ◌∷◌, ◌++◌, length, map, filter, Bool, not, nat_le}
use Rattle.std.specs.Prelude.{if◌then◌else◌, Result, Ok, Err}
use Rattle.std.specs.List.{list_all, fold}
use Rattle.std.specs.Cmp.Lexicographic.{slice_cmp}
use Rattle.std.specs.Ordering.{nat_cmp, is_lt}
use Rattle.esc_bundle.specs.declared.refusal.Refusal.{Refusal}
use Rattle.esc_bundle.specs.declared.refusal.Refusal.TheVariants.{NotJson, WrongFiles, BrokenRow}
use Rattle.esc_bundle.specs.declared.refusal.Refusal.TheVariants.{WrongKey, TooManyRows}
use Rattle.esc_bundle.specs.Bundle.{Named}
use Rattle.esc_bundle.specs.Frame.{frame}
use Rattle.esc_bundle.specs.Tests.{◌>>=◌, check}
use Rattle.esc_envelope.specs.EnvelopeValue.{TableValue, EnvelopeValue}
use Rattle.esc_envelope.specs.Envelope.{envelope_of}
use Rattle.esc_tables.specs.DepositValue.{DepositValue}
use Rattle.esc_tables.specs.KeyName.{KeyName}
use Rattle.esc_tables.specs.ObjectValue.{RowValue}
use Rattle.esc_tables.specs.TableRow.{TableRow, are_filed, rows_in, is_whole, has_key, key_of}
use Rattle.esc_tables.specs.TableRow.{keyed}
use Rattle.esc_tables.specs.Objects.{objects_of, orphans_of}

-- the most rows of a bundle
abbrev pub most_rows : ℕ
most_rows = 100_000

-- all tables that an envelope declares
abbrev pub tables_of : EnvelopeValue → List TableValue
tables_of e = e.contents ++ e.deletes

-- the name of a table comes before another's, by bytes
abbrev pub is_before : TableValue → TableValue → Bool
is_before t u = is_lt (slice_cmp nat_cmp t.name u.name)

-- a table inserted after those whose names are not after its own
abbrev pub placed : List TableValue → TableValue → List TableValue
placed [] t = t ∷ []
placed (u ∷ us) t = if is_before t u then t ∷ u ∷ us else u ∷ placed us t

-- tables in the order of their names
abbrev pub by_name : List TableValue → List TableValue
by_name tables = fold placed [] tables

-- the rows of parent tables, with the keys of their objects
abbrev pub parent_rows : List Named → EnvelopeValue → List (KeyName × RowValue)
parent_rows files e = map keyed (rows_in files (filter (λ t. t.parent) e.contents))

-- the rows of child tables, with the keys of their objects: by table name, and then as in the file
abbrev pub child_rows : List Named → EnvelopeValue → List (KeyName × RowValue)
child_rows files e = map keyed (rows_in files (by_name (filter (λ t. not t.parent) e.contents)))

-- the deposit that the rows make
unfoldable pub deposit_of_files : List Named → EnvelopeValue → DepositValue
deposit_of_files files e = record {
  header = e.header;
  counts = e.counts;
  deletes = map key_of (rows_in files e.deletes);
  contents = objects_of (parent_rows files e) (child_rows files e);
  orphans = orphans_of (parent_rows files e) (child_rows files e);
}

-- U9: a row has another number of fields, or a field that is no UTF-8. U10: a key is empty or too
-- long. U11: there are too many rows
unfoldable pub check_rows : List TableRow → Result (Unit {0}) Refusal
check_rows rows = do
  whole ← check (list_all is_whole rows) BrokenRow
  named ← check (list_all has_key rows) WrongKey
  check (nat_le (length rows) most_rows) TooManyRows

-- U8: a declared file is no section after the envelope, or a section after the envelope isn't
-- declared exactly once
unfoldable pub deposit_in : List Named → EnvelopeValue → Result DepositValue Refusal
deposit_in files e = do
  filed ← check (are_filed files (tables_of e)) WrongFiles
  right ← check_rows (rows_in files (tables_of e))
  Ok (deposit_of_files files e)

-- the deposit that sections make, the first of which is the envelope. A bundle has at least one
-- section, so the case without any does not occur
unfoldable pub sections_deposit : List Named → Result DepositValue Refusal
sections_deposit [] = Err NotJson
sections_deposit (first ∷ files) = envelope_of first.bytes >>= deposit_in files

-- the deposit that a body is, or the refusal
unfoldable pub reading : List ℕ → Result DepositValue Refusal
reading body = frame body >>= sections_deposit

-- the envelope of sections, which is the first of them. A bundle has at least one section, so the
-- case without any does not occur
unfoldable pub sections_envelope : List Named → Result EnvelopeValue Refusal
sections_envelope [] = Err NotJson
sections_envelope (first ∷ files) = envelope_of first.bytes

-- the envelope of a body, whatever its files have, or the refusal: U1 to U4 of the frame, U5 to U7
-- of the envelope
unfoldable pub bundled_envelope : List ℕ → Result EnvelopeValue Refusal
bundled_envelope body = frame body >>= sections_envelope
