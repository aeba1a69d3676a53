-- The tables of a bundle in the order in which they are read: parents, children by name, deletes.
use Rattle.std.proofs.Common.{◌≡◌, ◌∙◌, ℕ, ◌+◌, Bool, true, false, cond, List, [], ◌∷◌}
use Rattle.std.proofs.Common.{◌++◌, length, filter, refl, sym, ap, inl, inr, arith}
use Rattle.std.specs.Prelude.{not, ◌&&◌, Err}
use Rattle.std.specs.List.{list_all, fold}
use Rattle.std.proofs.lemmas.Bool.{cases_Bool}
use Rattle.std.proofs.lemmas.List.{length-append}
use Rattle.std.proofs.lemmas.List.Folds.{list_all-append}
use Rattle.std.proofs.lemmas.List.Sums.{fold-append}
use Rattle.std.proofs.lemmas.Grind.{flat_map-append}
use Rattle.std.proofs.Math.Bool.{and_assoc, and-false}
use Rattle.esc_bundle.specs.Bundle.{Named}
use Rattle.esc_bundle.specs.declared.refusal.Refusal.{Refusal}
use Rattle.esc_bundle.specs.declared.fault.Fault.{Fault}
use Rattle.esc_bundle.specs.declared.fault.Fault.TheVariants.{Refused}
use Rattle.esc_envelope.specs.EnvelopeValue.{TableValue}
use Rattle.esc_tables.specs.declared.survey.Survey.{Survey}
use Rattle.esc_tables.specs.TableRow.{TableRow, table_rows, rows_in, is_whole, has_key}
use Rattle.esc_tables.specs.Reading.{placed, by_name, is_before, check_rows}
use Rattle.esc_tables.specs.Survey.{surveyed, unseen, verdict, AreSurveyed, IsFaultOf}
use Rattle.esc_tables.proofs.SizeFacts.{same_length, joined_length}
use Rattle.esc_tables.proofs.SurveyFacts.{all_in_each, and_true, SeenOf, seen_is, judged, told_broken}

-- ---- a test of tables in turn

abbrev is_parent : TableValue → Bool
is_parent t = t.parent

abbrev is_child : TableValue → Bool
is_child t = not t.parent

abbrev in_turn : List TableValue → List TableValue → List TableValue
in_turn contents deletes = filter is_parent contents ++ (by_name (filter is_child contents) ++ deletes)

past : (a b c : Bool) → (a && (b && c)) ≡ (b && (a && c))
past true b c = refl
past false true c = refl
past false false c = refl

placed_tested : (test : TableValue → Bool) (us : List TableValue) (t : TableValue)
    → list_all test (placed us t) ≡ (test t && list_all test us)
placed_tested test [] t = refl
placed_tested test (u ∷ us) t = elim (cases_Bool (is_before t u)) [
  | inl e ↦ rw e refl
  | inr e ↦ rw e (ap (λ (b : Bool). test u && b) (placed_tested test us t)
      ∙ past (test u) (test t) (list_all test us))
]

onward_tested : (test : TableValue → Bool) (ts us : List TableValue)
    → list_all test (fold placed us ts) ≡ (list_all test us && list_all test ts)
onward_tested test [] us = and_true (list_all test us)
onward_tested test (t ∷ ts) us =
    onward_tested test ts (placed us t) ∙ ap (λ (b : Bool). b && list_all test ts) (placed_tested test us t)
    ∙ and_assoc (test t) (list_all test us) (list_all test ts) ∙ past (test t) (list_all test us) (list_all test ts)

parted_tested : (test : TableValue → Bool) (ts : List TableValue)
    → (list_all test (filter is_parent ts) && list_all test (filter is_child ts)) ≡ list_all test ts
parted_tested test [] = refl
parted_tested test (t ∷ ts) = by_test t.parent (parted_tested test ts)
  where
    by_test : (b : Bool)
        → (list_all test (filter is_parent ts) && list_all test (filter is_child ts)) ≡ list_all test ts
        → (list_all test (cond b (t ∷ filter is_parent ts) (filter is_parent ts)) && list_all
        test (cond (not b) (t ∷ filter is_child ts) (filter is_child ts))) ≡ list_all test (t ∷ ts)
    by_test true later = and_assoc (test t) (list_all test (filter is_parent ts))
        (list_all test (filter is_child ts)) ∙ ap (λ (b : Bool). test t && b) later
    by_test false later = past (list_all test (filter is_parent ts))
        (test t) (list_all test (filter is_child ts)) ∙ ap (λ (b : Bool). test t && b) later

turn_tested : (test : TableValue → Bool) (cs ds : List TableValue)
    → list_all test (in_turn cs ds) ≡ list_all test (cs ++ ds)
turn_tested test cs ds =
    let parents = list_all test (filter is_parent cs) in
    let children = list_all test (by_name (filter is_child cs)) in
    let deletes = list_all test ds in
    list_all-append test (filter is_parent cs) (by_name (filter is_child cs) ++ ds)
    ∙ ap (λ (b : Bool). parents && b) (list_all-append test (by_name (filter is_child cs)) ds)
    ∙ sym (and_assoc parents children deletes)
    ∙ ap (λ (b : Bool). (parents && b) && deletes) (onward_tested test (filter is_child cs) [])
    ∙ ap (λ (b : Bool). b && deletes) (parted_tested test cs) ∙ sym (list_all-append test cs ds)

-- ---- as many rows

parted_length : (files : List Named) (ts : List TableValue)
    → length (rows_in files (filter is_parent ts)) + length (rows_in files (filter is_child ts))
    ≡ length (rows_in files ts)
parted_length files [] = refl
parted_length files (t ∷ ts) = by_test t.parent (parted_length files ts)
  where
    by_test : (b : Bool) → length (rows_in files (filter is_parent ts))
        + length (rows_in files (filter is_child ts)) ≡ length (rows_in files ts)
        → length (rows_in files (cond b (t ∷ filter is_parent ts) (filter is_parent ts)))
        + length (rows_in files (cond (not b) (t ∷ filter is_child ts) (filter is_child ts)))
        ≡ length (rows_in files (t ∷ ts))
    by_test true later = omega (
      arith,
      later,
      length-append (table_rows files t)
          (rows_in files (filter is_parent ts)),
      length-append (table_rows files t) (rows_in files ts),
    )
    by_test false later = omega (
      arith,
      later,
      length-append (table_rows files t)
          (rows_in files (filter is_child ts)),
      length-append (table_rows files t) (rows_in files ts),
    )

-- ---- the rows of tables in turn have the same faults

-- the rows of the parents
abbrev pub parents_in : List Named → List TableValue → List TableRow
parents_in files contents = rows_in files (filter is_parent contents)

-- the rows of the children
abbrev pub children_in : List Named → List TableValue → List TableRow
children_in files contents = rows_in files (by_name (filter is_child contents))

-- the rows of a bundle in the order in which they are read
abbrev pub in_parts : List Named → List TableValue → List TableValue → List TableRow
in_parts files contents deletes = parents_in files contents ++ (children_in files contents ++ rows_in files deletes)

parts_turn : (files : List Named) (cs ds : List TableValue) → in_parts files cs ds ≡ rows_in files (in_turn cs ds)
parts_turn files cs ds =
    ap (λ (rows : List TableRow). rows_in files (filter is_parent cs) ++ rows)
    (sym (flat_map-append (table_rows files) (by_name (filter is_child cs)) ds))
    ∙ sym (flat_map-append (table_rows files) (filter is_parent cs) (by_name (filter is_child cs) ++ ds))

parts_tested : (files : List Named) (cs ds : List TableValue) (test : TableRow → Bool)
    → list_all test (in_parts files cs ds) ≡ list_all test (rows_in files (cs ++ ds))
parts_tested files cs ds test =
    ap (list_all test) (parts_turn files cs ds) ∙ all_in_each test (table_rows files) (in_turn cs ds)
    ∙ turn_tested (λ t. list_all test (table_rows files t)) cs ds
    ∙ sym (all_in_each test (table_rows files) (cs ++ ds))

parts_length : (files : List Named) (cs ds : List TableValue)
    → length (in_parts files cs ds) ≡ length (rows_in files (cs ++ ds))
parts_length files cs ds =
    omega (
      arith,
      joined_length files cs ds,
      parted_length files cs,
      same_length files (filter is_child cs),
      length-append (rows_in files (filter is_parent cs))
          (rows_in files (by_name (filter is_child cs)) ++ rows_in files ds),
      length-append (rows_in files (by_name (filter is_child cs))) (rows_in files ds),
    )

same_faults : (files : List Named) (cs ds : List TableValue)
    → check_rows (rows_in files (cs ++ ds)) ≡ check_rows (in_parts files cs ds)
unfolding check_rows
same_faults files cs ds = rw (
  parts_tested files cs ds is_whole,
  parts_tested files cs ds has_key,
  parts_length files cs ds,
) refl

-- ---- the least fault of rows that were read in three parts

-- what was seen of them, if the first part was read before any other row
seen_in_parts : (ps cs ds : List TableRow) {s t u : Survey} → s ≡ fold surveyed unseen ps
    → t ≡ fold surveyed s cs → u ≡ fold surveyed t ds → SeenOf (ps ++ (cs ++ ds)) u
seen_in_parts ps cs ds first second third =
    let all =
    third ∙ ap (λ (x : Survey). fold surveyed x ds) second
    ∙ ap (λ (x : Survey). fold surveyed (fold surveyed x cs) ds) first
    ∙ sym (fold-append surveyed (fold surveyed unseen ps) cs ds)
    ∙ sym (fold-append surveyed unseen ps (cs ++ ds)) in
    rw all (seen_is (ps ++ (cs ++ ds)))

-- their verdict is that of what was seen of them
pub judged_in_turn : {X Y : Type 0} {of_row : TableRow → X} {of_delete : TableRow → Y} (files : List
    Named) (contents deletes : List TableValue) {s t u : Survey} {a b c d : List X} {e f : List Y}
    → AreSurveyed of_row (parents_in files contents) (unseen, a) (s, b)
    → AreSurveyed of_row (children_in files contents) (s, c) (t, d)
    → AreSurveyed of_delete (rows_in files deletes) (t, e) (u, f)
    → check_rows (rows_in files (contents ++ deletes)) ≡ verdict u
judged_in_turn files contents deletes {u = u} first second third =
    let ps = parents_in files contents in
    let cs = children_in files contents in
    let ds = rows_in files deletes in
    let whole : list_all is_whole (ps ++ (cs ++ ds)) ≡ true = rw (
      list_all-append is_whole
          ps (cs ++ ds),
      list_all-append is_whole cs ds,
      first.whole,
      second.whole,
      third.whole,
    ) refl in
    same_faults files contents deletes
    ∙ judged (ps ++ (cs ++ ds)) u whole (seen_in_parts ps cs ds first.seen second.seen third.seen)

-- they are refused where one of the parts is
pub refused_in_first : (rows more : List TableRow) (fault : Fault)
    → IsFaultOf rows fault → IsFaultOf (rows ++ more) fault
refused_in_first rows more fault told = λ n same.
    let one = told n same in
    (one.0, rw (list_all-append is_whole rows more, one.1) refl)

-- a fault of later rows is one of all
pub refused_in_rest : (rows more : List TableRow) (fault : Fault)
    → IsFaultOf more fault → IsFaultOf (rows ++ more) fault
refused_in_rest rows more fault told = λ n same.
    let one = told n same in
    (one.0, rw (list_all-append is_whole rows more, one.1) (and-false (list_all is_whole rows)))

-- a fault in the order of reading is one of the bundle
pub refused_in_turn : (files : List Named) (contents deletes : List TableValue) (fault : Fault)
    → IsFaultOf (in_parts files contents deletes) fault
    → (n : Refusal) → fault ≡ Refused n → check_rows (rows_in files (contents ++ deletes)) ≡ Err n
refused_in_turn files contents deletes fault told n same =
    let one = told n same in
    rw one.0 (same_faults files contents deletes ∙ told_broken (in_parts files contents deletes) one.1)
