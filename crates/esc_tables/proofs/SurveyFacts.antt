-- What a pass over all rows says of them.
use Rattle.std.proofs.Common.{◌≡◌, ◌∙◌, ℕ, ◌+◌, ◌<◌, ◌≤◌, Bool, true, false, cond, List}
use Rattle.std.proofs.Common.{[], ◌∷◌, length, map, min, refl, sym, ap, inl, inr, arith}
use Rattle.std.specs.Prelude.{◌==◌, ◌&&◌, nat_le, Ok, Err}
use Rattle.std.specs.List.{list_all, flat_map, fold}
use Rattle.std.proofs.lemmas.Bool.{cases_Bool, and_parts}
use Rattle.std.proofs.lemmas.Bool.Decides.{nat_tests}
use Rattle.std.proofs.lemmas.List.{nil_from_length}
use Rattle.std.proofs.lemmas.List.Folds.{list_all-append}
use Rattle.std.proofs.Math.Bool.{and_assoc}
use Rattle.csv.specs.Machine.{next_record}
use Rattle.csv.specs.Reading.{strip_bom, records_from}
use Rattle.esc_bundle.specs.declared.refusal.Refusal.TheVariants.{BrokenRow, WrongKey, TooManyRows}
use Rattle.esc_bundle.specs.Bundle.{Named}
use Rattle.esc_bundle.specs.Tests.{◌>>=◌, check}
use Rattle.esc_csv.specs.Records.{records_of}
use Rattle.esc_envelope.specs.EnvelopeValue.{TableValue}
use Rattle.esc_tables.specs.declared.survey.Survey.{Survey}
use Rattle.esc_tables.specs.TableRow.{TableRow, bytes_named, in_table, table_rows, is_whole, has_key}
use Rattle.esc_tables.specs.Reading.{check_rows}
use Rattle.esc_tables.specs.Survey.{surveyed, unseen, is_right, verdict}

-- a file without a byte has no row
no_records : records_of [] ≡ []
unfolding strip_bom records_from next_record
no_records = refl

-- an empty file has no rows
pub no_rows : (files : List Named) (t : TableValue)
    → (length (bytes_named files t.file) == 0) ≡ true → table_rows files t ≡ []
no_rows files t none =
    let nothing : bytes_named files t.file ≡ [] = nil_from_length (bytes_named files t.file) (grind (arith, none)) in
    ap (λ (text : List ℕ). map (in_table t) (records_of text)) nothing ∙ ap (map (in_table t)) no_records

-- a test of all rows is a test of the rows of each table
pub all_in_each : {A B : Type 0} (test : B → Bool) (f : A → List B) (xs : List A)
    → list_all test (flat_map f xs) ≡ list_all (λ x. list_all test (f x)) xs
all_in_each test f [] = refl
all_in_each test f (x ∷ xs) = list_all-append test (f x) (flat_map f xs)
    ∙ ap (λ (b : Bool). list_all test (f x) && b) (all_in_each test f xs)

-- a further test that always passes
pub and_true : (b : Bool) → b ≡ (b && true)
and_true true = refl
and_true false = refl

keys_seen : (s : Survey) (rows : List TableRow)
    → (fold surveyed s rows).has_keys ≡ (s.has_keys && list_all has_key rows)
keys_seen s [] = and_true s.has_keys
keys_seen s (r ∷ rows) = keys_seen (surveyed s r) rows ∙ and_assoc s.has_keys (has_key r) (list_all has_key rows)

one_more : (n len : ℕ) → n ≤ 100_001 → (cond (nat_le n 100_000) (n + 1) n ≤ 100_001)
    × (min (cond (nat_le n 100_000) (n + 1) n + len) 100_001 ≡ min (n + (1 + len)) 100_001)
one_more n len h = elim (cases_Bool (nat_le n 100_000)) [
  | inl few ↦ let lt : n ≤ 100_000 = grind (arith, nat_tests) in rw few (omega arith, omega arith)
  | inr many ↦ let ge : 100_000 < n = grind (arith, nat_tests) in rw many (omega arith, omega arith)
]

rows_seen : (s : Survey) (rows : List TableRow)
    → s.rows ≤ 100_001 → (fold surveyed s rows).rows ≡ min (s.rows + length rows) 100_001
rows_seen s [] h = omega arith
rows_seen s (r ∷ rows) h = let more = one_more s.rows (length rows) h in
    rows_seen (surveyed s r) rows more.0 ∙ more.1 ∙ omega arith

-- what was seen of all rows, in two parts
abbrev pub SeenOf : List TableRow → Survey → Type 0
SeenOf rows s = (s.has_keys ≡ list_all has_key rows) × (s.rows ≡ min (length rows) 100_001)

-- what is seen of all rows
pub seen_is : (rows : List TableRow) → SeenOf rows (fold surveyed unseen rows)
seen_is rows = (keys_seen unseen rows, rows_seen unseen rows (omega arith) ∙ omega arith)

-- the fault that applies
pub told_broken : (rows : List TableRow) → list_all is_whole rows ≡ false → check_rows rows ≡ Err BrokenRow
unfolding check_rows
told_broken rows broken = rw broken refl

test_seen : (len n : ℕ) → n ≡ min len 100_001 → nat_le len 100_000 ≡ nat_le n 100_000
test_seen len n is = elim (cases_Bool (nat_le len 100_000)) [
  | inl few ↦ let within : len ≤ 100_000 = grind (arith, nat_tests) in
      let same : n ≡ len = omega (arith, is, within) in rw same refl
  | inr many ↦ let over : 100_000 < len = grind (arith, nat_tests) in
      let same : n ≡ 100_001 = omega (arith, is, over) in rw (many, same) refl
]

-- the verdict on rows is that of what was seen
pub judged : (rows : List TableRow) (s : Survey)
    → list_all is_whole rows ≡ true → SeenOf rows s → check_rows rows ≡ verdict s
unfolding check_rows
judged rows s whole seen = rw (whole, ← seen.0, test_seen (length rows) s.rows seen.1) refl

both_pass : (a b : Bool) → (check a WrongKey >>= λ _. check b TooManyRows) ≡ Ok tt → (a && b) ≡ true
both_pass true true h = refl
both_pass true false h = absurd cc
both_pass false b h = absurd cc

-- what is judged right is right
pub right_verdict : (s : Survey) → verdict s ≡ Ok tt → is_right s ≡ true
right_verdict s h = both_pass s.has_keys (nat_le s.rows 100_000) h

-- what is right after a row was right before it
right_before : (s : Survey) (r : TableRow) → is_right (surveyed s r) ≡ true → is_right s ≡ true
right_before s r h = by_test (nat_le s.rows 100_000) refl
  where
    by_test : (b : Bool) → nat_le s.rows 100_000 ≡ b → is_right s ≡ true
    by_test true few = rw (
      (and_parts s.has_keys (has_key r)
          (and_parts (s.has_keys && has_key r) (nat_le (surveyed s r).rows 100_000) h).0).0,
      few,
    ) refl
    by_test false many = absurd
        (cc (sym many ∙ (and_parts (s.has_keys && has_key r) (nat_le s.rows 100_000) (rw many at h)).1))

-- what is right in the end was right before
pub right_at_first : (s : Survey) (rows : List TableRow)
    → is_right (fold surveyed s rows) ≡ true → is_right s ≡ true
right_at_first s [] h = h
right_at_first s (r ∷ rows) h = right_before s r (right_at_first (surveyed s r) rows h)
