-- A manifest that was written is read as its rows.
use Rattle.std.proofs.Common.{◌≡◌, ℕ, zero, suc, ◌+◌, ◌<◌, ◌≤◌, false, [], ◌∷◌, ◌++◌}
use Rattle.std.proofs.Common.{get_or, filter_map, None, refl, ap, ◌∙◌, subst, arith}
use Rattle.std.specs.Prelude.{Bool, List, length, map, Some, Ok, position, nat_lt, All}
use Rattle.std.proofs.lemmas.Bool.Decides.{nat_tests}
use Rattle.std.proofs.lemmas.List.{get_or-map, get_or_default, length-map}
use Rattle.csv.specs.Reading.{strip_bom}
use Rattle.csv.specs.Writing.{fields_text, is_blank, escaped, read_back}
use Rattle.esc_csv.specs.Lines.{Line, line_text, text_of}
use Rattle.esc_csv.specs.Records.{records_of, IsUnmarked}
use Rattle.esc_manifest.specs.declared.row.MRow.{MRow}
use Rattle.esc_manifest.specs.Accepted.{IsAccepted}
use Rattle.esc_manifest.specs.ManifestRows.{no_row, row_at}
use Rattle.esc_manifest.specs.RowFaults.{most_manifest_rows, rows_fault}
use Rattle.esc_manifest.specs.Fields.{row_of}
use Rattle.esc_manifest.specs.Manifest.{most_bytes, has_other_length, lacks_id, lacks_type}
use Rattle.esc_manifest.specs.Manifest.{lacks_watermark, is_diff_alone, lacks_resend, lacks_digest}
use Rattle.esc_manifest.specs.Manifest.{records_fault, text_fault, manifest_of}
use Rattle.esc_manifest.specs.PositionLaws.{no_first}
use Rattle.esc_pack.specs.Written.{manifest_heading, manifest_line, rows_text, manifest_text, IsLegible}
use Rattle.esc_pack.proofs.RowFields.{Reads, row_reads, not_alone}

-- the text begins with no byte order mark
unmarked : (rest : List ℕ) → IsUnmarked (line_text manifest_heading ++ rest)
unfolding strip_bom fields_text is_blank escaped
unmarked rest = refl

lines_read : (m : List MRow) → map read_back (map manifest_line m) ≡ map manifest_line m
lines_read [] = refl
lines_read (r ∷ m) = ap (λ (lines : List Line). manifest_line r ∷ lines) (lines_read m)

-- lines that were written are read back, where their text has no mark
abbrev pub AreReadBack : Type 0
AreReadBack = (lines : List Line) → IsUnmarked (text_of lines) → records_of (text_of lines) ≡ map read_back lines

records_read : AreReadBack
    → (m : List MRow) → records_of (manifest_text m) ≡ manifest_heading ∷ map manifest_line m
records_read law m =
    law (manifest_heading ∷ map manifest_line m) (unmarked (rows_text m))
    ∙ ap (λ (lines : List Line). manifest_heading ∷ lines) (lines_read m)

-- no line passes a test that no row's line passes
none_first : (test : Line → Bool) (m : List MRow)
    → ((k : ℕ) → k < length m → test (manifest_line (row_at m k)) ≡ false)
    → position test (map manifest_line m) ≡ None
none_first test m fails =
    no_first test (map manifest_line m) (manifest_line no_row)
    (λ k lt.
    let inside : k < length m = omega (arith, length-map m manifest_line) in
    ap test (get_or-map manifest_line m k no_row (manifest_line no_row) inside) ∙ fails k inside)

module _ (m : List MRow) (a : IsAccepted m) (l : All IsLegible m) where
  reads : (k : ℕ) → k < length m → Reads (row_at m k)
  reads k lt = row_reads (row_at m k) (a.ids k lt) (a.prevs k lt) (a.resends k lt) (l k no_row lt)

  few : nat_lt (most_manifest_rows + 1) (length (manifest_heading ∷ map manifest_line m)) ≡ false
  few = let small : length m ≤ 4096 = a.few in let same = length-map m manifest_line in grind (arith, nat_tests)

  six_at : (k : ℕ) → k < length (manifest_heading ∷ map manifest_line m)
      → has_other_length (get_or (manifest_heading ∷ map manifest_line m) k
      (manifest_line no_row)) ≡ false
  six_at zero lt = refl
  six_at (suc k) lt =
      let inside : k < length m = omega (arith, length-map m manifest_line) in
      ap has_other_length (get_or-map manifest_line m k no_row (manifest_line no_row) inside)

  six : position has_other_length (manifest_heading ∷ map manifest_line m) ≡ None
  six = no_first has_other_length (manifest_heading ∷ map manifest_line m)
      (manifest_line no_row) six_at

  no_record_fault : records_fault (manifest_heading ∷ map manifest_line m) ≡ None
  unfolding records_fault
  no_record_fault =
      rw (
        few,
        six,
        none_first lacks_id m (λ k lt. (reads k lt).id),
        none_first lacks_type m (λ k lt. (reads k lt).kind),
        none_first lacks_watermark m (λ k lt. (reads k lt).watermark),
        none_first is_diff_alone m (λ k lt. not_alone (row_at m k) (a.prevs k lt) (a.has_prev k lt)),
        none_first lacks_resend m (λ k lt. (reads k lt).resend),
        none_first lacks_digest m (λ k lt. (reads k lt).digest),
      ) refl

-- the rows of the lines
rows_read : (m : List MRow)
    → All (λ r. row_of (manifest_line r) ≡ Some r) m → filter_map row_of (map manifest_line m) ≡ m
rows_read [] h = refl
rows_read (r ∷ m) h =
    let first : row_of (manifest_line r) ≡ Some r = h 0 r (omega arith) in
    let rest = rows_read m (λ k d lt. h (suc k) d (omega arith)) in
    rw (first, rest) refl

each_row : (m : List MRow) → IsAccepted m → All IsLegible m → All (λ r. row_of (manifest_line r) ≡ Some r) m
each_row m a l k d lt =
    subst (λ (r : MRow). row_of (manifest_line r) ≡ Some r) (get_or_default m k no_row d lt) (reads m a l k lt).row

-- a manifest that was written is read as its rows
pub manifest_read : AreReadBack → (m : List MRow) → IsAccepted m → All IsLegible m → rows_fault m ≡ None
    → length (manifest_text m) ≤ most_bytes → manifest_of (manifest_text m) ≡ Ok m
unfolding manifest_of text_fault
manifest_read law m a l free fits =
    let short : nat_lt most_bytes (length (manifest_text m)) ≡ false = grind (arith, nat_tests) in
    rw (short, records_read law m, no_record_fault m a l, rows_read m (each_row m a l), free) refl
