-- The reading of a body is what the relations say.
use Rattle.std.proofs.Common.{◌≡◌, ◌∙◌, ◌≤◌, ◌<◌, ℕ, true, false, List, [], ◌∷◌, length}
use Rattle.std.proofs.Common.{refl, sym, ap, subst, arith, inl, inr}
use Rattle.std.specs.Prelude.{Result, Ok, Err, ◌↔◌, nat_le, ◌⊎◌}
use Rattle.std.specs.List.{list_all}
use Rattle.std.proofs.lemmas.Bool.{cases_Bool}
use Rattle.std.proofs.lemmas.Bool.Decides.{nat_tests}
use Rattle.esc_bundle.specs.declared.refusal.Refusal.{Refusal}
use Rattle.esc_bundle.specs.declared.refusal.Refusal.TheVariants.{WrongFiles, BrokenRow, WrongKey, TooManyRows}
use Rattle.esc_bundle.specs.Bundle.{Named, IsBundle}
use Rattle.esc_bundle.specs.Codes.{refusal_number}
use Rattle.esc_bundle.specs.RefusalLaws.{one_refusal}
use Rattle.esc_bundle.specs.Reading.{IsFault}
use Rattle.esc_bundle.specs.Frame.{frame}
use Rattle.esc_bundle.specs.Tests.{◌>>=◌, check}
use Rattle.esc_bundle.specs.TestLaws.{bind_done, bind_fault, check_passed}
use Rattle.esc_envelope.specs.EnvelopeValue.{EnvelopeValue}
use Rattle.esc_envelope.specs.Envelope.{envelope_of}
use Rattle.esc_tables.specs.DepositValue.{DepositValue}
use Rattle.esc_tables.specs.TableRow.{TableRow, are_filed, is_whole, has_key}
use Rattle.esc_tables.specs.Objects.{objects_of}
use Rattle.esc_tables.specs.Reading.{tables_of, check_rows, deposit_of_files, deposit_in}
use Rattle.esc_tables.specs.Reading.{sections_deposit, reading, most_rows, parent_rows, child_rows}
use Rattle.esc_tables.specs.DepositOf.{all_rows, Makes, IsDepositOf, IsDepositFault}
use Rattle.esc_tables.specs.DepositOf.{IsLeastDepositFault, IsRefusedAt, IsRefused}
use Rattle.esc_tables.proofs.ObjectFacts.{same_objects, objects_found, objects_sorted}
use Rattle.esc_tables.proofs.DepositFacts.{made_of, told_unfiled, told_rows, told_deposit, same_reading}
use Rattle.esc_tables.proofs.DepositFacts.{no_frame, no_envelope}
use Rattle.esc_tables.proofs.SurveyFacts.{told_broken}

-- ---- one deposit is made

made_is : (files : List Named) (e : EnvelopeValue) → Makes files e (deposit_of_files files e)
unfolding deposit_of_files
made_is files e = record {
  header = refl;
  counts = refl;
  deletes = refl;
  sorted = objects_sorted (parent_rows files e) (child_rows files e);
  objects = objects_found (parent_rows files e) (child_rows files e);
  orphans = refl;
}

made_only : (files : List Named) (e : EnvelopeValue) (d : DepositValue)
    → Makes files e d → d ≡ deposit_of_files files e
made_only files e d made =
    let contents : d.contents ≡ objects_of (parent_rows files e) (child_rows files e) =
    same_objects d.contents (objects_of (parent_rows files e) (child_rows files e))
    made.sorted (objects_sorted (parent_rows files e) (child_rows files e))
    (λ k. made.objects k ∙ sym (objects_found (parent_rows files e) (child_rows files e) k)) in
    made_of files e d made.header made.counts made.deletes contents made.orphans

-- ---- the tests in order

-- what is known of rows that are right
pub record Right (rows : List TableRow) : Type 0 where
  pub whole : list_all is_whole rows ≡ true
  pub named : list_all has_key rows ≡ true
  pub few : length rows ≤ most_rows

-- rows that pass their tests are right
pub right_rows : (rows : List TableRow) → check_rows rows ≡ Ok tt → Right rows
unfolding check_rows
right_rows rows h =
    let first = bind_done (check (list_all is_whole rows) BrokenRow) _ tt h in
    let second = bind_done (check (list_all has_key rows) WrongKey) _ tt first.2 in
    let test = check_passed (nat_le (length rows) most_rows) TooManyRows tt second.2 in
    record {
      whole = check_passed (list_all is_whole rows) BrokenRow first.0 first.1;
      named = check_passed (list_all has_key rows) WrongKey second.0 second.1;
      few = grind (arith, nat_tests);
    }

rows_right : (rows : List TableRow) → list_all is_whole rows ≡ true
    → list_all has_key rows ≡ true → length rows ≤ most_rows → check_rows rows ≡ Ok tt
unfolding check_rows
rows_right rows whole named few = let test : nat_le (length rows) most_rows ≡ true =
    grind (arith, nat_tests) in rw (whole, named, test) refl

-- two Ok with one value
pub same_ok : {A : Type 0} (x y : A) → ◌≡◌ {A = Result A Refusal} (Ok x) (Ok y) → x ≡ y
same_ok x y h = cc

-- ---- a deposit is read

-- what a deposit is made of
abbrev pub Parts : List Named → EnvelopeValue → DepositValue → Type 0
Parts files e d = (are_filed files (tables_of e) ≡ true)
    × (check_rows (all_rows files e) ≡ Ok tt) × (d ≡ deposit_of_files files e)

-- a deposit that is read is made of its parts
pub parts_of : (files : List Named) (e : EnvelopeValue) (d : DepositValue)
    → deposit_in files e ≡ Ok d → Parts files e d
unfolding deposit_in
parts_of files e d h =
    let first = bind_done (check (are_filed files (tables_of e)) WrongFiles) _ d h in
    let second = bind_done (check_rows (all_rows files e)) _ d first.2 in (
      check_passed (are_filed files (tables_of e)) WrongFiles first.0 first.1,
      second.1,
      sym (same_ok (deposit_of_files files e) d second.2),
    )

is_deposit_in : (body : List ℕ) (first : Named)
    (files : List Named) (e : EnvelopeValue) (d : DepositValue) → IsBundle body (first ∷ files)
    → envelope_of first.bytes ≡ Ok e → Parts files e d → IsDepositOf body d
is_deposit_in body first files e d bundle told parts =
    let right = right_rows (all_rows files e) parts.1 in
    record {
      first = first;
      files = files;
      bundle = bundle;
      envelope = e;
      told = told;
      filed = parts.0;
      whole = right.whole;
      named = right.named;
      few = right.few;
      made = rw parts.2 (made_is files e);
    }

is_deposit_at : (body : List ℕ) (ss : List Named) (d : DepositValue)
    → IsBundle body ss → sections_deposit ss ≡ Ok d → IsDepositOf body d
unfolding sections_deposit
is_deposit_at body [] d bundle h = absurd cc
is_deposit_at body (first ∷ files) d bundle h =
    let step = bind_done (envelope_of first.bytes) (deposit_in files) d h in
    is_deposit_in body first files step.0 d bundle step.1 (parts_of files step.0 d step.2)

-- frames are read exactly where they are bundles
abbrev pub FrameIsExact : Type 0
FrameIsExact = (body : List ℕ) (ss : List Named) → (frame body ≡ Ok ss) ↔ IsBundle body ss

is_deposit : FrameIsExact → (body : List ℕ) (d : DepositValue) → reading body ≡ Ok d → IsDepositOf body d
unfolding reading
is_deposit exact body d h = let step = bind_done (frame body) sections_deposit d h in
    is_deposit_at body step.0 d ((exact body step.0).0 step.1) step.2

reads : FrameIsExact → (body : List ℕ) (d : DepositValue) → IsDepositOf body d → reading body ≡ Ok d
reads exact body d is =
    same_reading body is.first is.files is.envelope ((exact body (is.first ∷ is.files)).1 is.bundle) is.told
    ∙ told_deposit is.files is.envelope is.filed (rows_right (all_rows is.files is.envelope) is.whole is.named is.few)
    ∙ ap (λ (x : DepositValue). Ok x) (sym (made_only is.files is.envelope d is.made))

-- a body is read as a deposit exactly where it is one
pub reading_exact : FrameIsExact
    → (body : List ℕ) (d : DepositValue) → (reading body ≡ Ok d) ↔ IsDepositOf body d
reading_exact exact body d = (is_deposit exact body d, reads exact body d)

-- ---- one refusal comes first

abbrev NoneStands : List Named → EnvelopeValue → Type 0
NoneStands files e = (m : Refusal) → IsDepositFault files e m → ⊥

abbrev Told : List Named → EnvelopeValue → Type 0
Told files e = ((deposit_in files e ≡ Ok (deposit_of_files files e)) × NoneStands files e)
    ⊎ ((n : Refusal) × (deposit_in files e ≡ Err n) × IsLeastDepositFault files e n)

nameless_rows : (rows : List TableRow)
    → list_all is_whole rows ≡ true → list_all has_key rows ≡ false → check_rows rows ≡ Err WrongKey
unfolding check_rows
nameless_rows rows whole nameless = rw (whole, nameless) refl

many_rows : (rows : List TableRow) → list_all is_whole rows ≡ true
    → list_all has_key rows ≡ true → most_rows < length rows → check_rows rows ≡ Err TooManyRows
unfolding check_rows
many_rows rows whole named many = let test : nat_le (length rows) most_rows ≡ false =
    grind (arith, nat_tests) in rw (whole, named, test) refl

abbrev Below : List Named → EnvelopeValue → Refusal → Type 0
Below files e n = (m : Refusal) → IsDepositFault files e m → refusal_number n ≤ refusal_number m

below_files : (files : List Named) (e : EnvelopeValue) → Below files e WrongFiles
below_files files e m (inl w) = rw w.0 (omega arith)
below_files files e m (inr (inl w)) = rw w.0 (omega arith)
below_files files e m (inr (inr (inl w))) = rw w.0 (omega arith)
below_files files e m (inr (inr (inr w))) = rw w.0 (omega arith)

below_whole : (files : List Named) (e : EnvelopeValue)
    → are_filed files (tables_of e) ≡ true → Below files e BrokenRow
below_whole files e filed m (inl w) = let unfiled = w.1 in absurd cc
below_whole files e filed m (inr (inl w)) = rw w.0 (omega arith)
below_whole files e filed m (inr (inr (inl w))) = rw w.0 (omega arith)
below_whole files e filed m (inr (inr (inr w))) = rw w.0 (omega arith)

below_keys : (files : List Named) (e : EnvelopeValue) → are_filed files (tables_of e) ≡ true
    → list_all is_whole (all_rows files e) ≡ true → Below files e WrongKey
below_keys files e filed whole m (inl w) = let unfiled = w.1 in absurd cc
below_keys files e filed whole m (inr (inl w)) = let broken = w.1 in absurd cc
below_keys files e filed whole m (inr (inr (inl w))) = rw w.0 (omega arith)
below_keys files e filed whole m (inr (inr (inr w))) = rw w.0 (omega arith)

below_number : (files : List Named) (e : EnvelopeValue)
    → are_filed files (tables_of e) ≡ true → list_all is_whole (all_rows files e) ≡ true
    → list_all has_key (all_rows files e) ≡ true → Below files e TooManyRows
below_number files e filed whole named m (inl w) = let unfiled = w.1 in absurd cc
below_number files e filed whole named m (inr (inl w)) = let broken = w.1 in absurd cc
below_number files e filed whole named m (inr (inr (inl w))) = let nameless = w.1 in absurd cc
below_number files e filed whole named m (inr (inr (inr w))) = rw w.0 (omega arith)

none_stands : (files : List Named) (e : EnvelopeValue) → are_filed files (tables_of e) ≡ true
    → list_all is_whole (all_rows files e) ≡ true → list_all has_key (all_rows files e) ≡ true
    → length (all_rows files e) ≤ most_rows → NoneStands files e
none_stands files e filed whole named few m (inl w) = let unfiled = w.1 in absurd cc
none_stands files e filed whole named few m (inr (inl w)) = let broken = w.1 in absurd cc
none_stands files e filed whole named few m (inr (inr (inl w))) = let nameless = w.1 in absurd cc
none_stands files e filed whole named few m (inr (inr (inr w))) = absurd (omega (arith, w.1, few))

told_number : (files : List Named) (e : EnvelopeValue) → are_filed files (tables_of e) ≡ true → list_all
    is_whole (all_rows files e) ≡ true → list_all has_key (all_rows files e) ≡ true → Told files e
told_number files e filed whole named = elim (cases_Bool (nat_le (length (all_rows files e)) most_rows)) [
  | inl test ↦
      let few : length (all_rows files e) ≤ most_rows = grind (arith, nat_tests) in
      inl (
        told_deposit files e filed (rows_right (all_rows files e) whole named few),
        none_stands files e filed whole named few,
      )
  | inr test ↦
      let many : most_rows < length (all_rows files e) = grind (arith, nat_tests) in
      inr (
        TooManyRows,
        told_rows files e TooManyRows filed (many_rows (all_rows files e)
            whole named many),
        (inr (inr (inr (refl, many))), below_number files e filed whole named),
      )
]

told_keys : (files : List Named) (e : EnvelopeValue)
    → are_filed files (tables_of e) ≡ true → list_all is_whole (all_rows files e) ≡ true → Told files e
told_keys files e filed whole = elim (cases_Bool (list_all has_key (all_rows files e))) [
  | inl named ↦ told_number files e filed whole named
  | inr nameless ↦ inr (
    WrongKey,
    told_rows files e WrongKey filed (nameless_rows (all_rows files e)
        whole nameless),
    (inr (inr (inl (refl, nameless))), below_keys files e filed whole),
  )
]

told_whole : (files : List Named) (e : EnvelopeValue) → are_filed files (tables_of e) ≡ true → Told files e
told_whole files e filed = elim (cases_Bool (list_all is_whole (all_rows files e))) [
  | inl whole ↦ told_keys files e filed whole
  | inr broken ↦ inr (
    BrokenRow,
    told_rows files e BrokenRow filed
        (told_broken (all_rows files e) broken),
    (inr (inl (refl, broken)), below_whole files e filed),
  )
]

told : (files : List Named) (e : EnvelopeValue) → Told files e
told files e = elim (cases_Bool (are_filed files (tables_of e))) [
  | inl filed ↦ told_whole files e filed
  | inr unfiled ↦ inr (WrongFiles, told_unfiled files e unfiled, (inl (refl, unfiled), below_files files e))
]

not_both : {P A : Type 0} (r : Result A Refusal) (x : A) (n : Refusal) → r ≡ Ok x → r ≡ Err n → P
not_both r x n found refused = absurd cc

same_number : {A : Type 0} (r : Result A Refusal) (m n : Refusal) → r ≡ Err m → r ≡ Err n → m ≡ n
same_number r m n first then = cc

least_from : (files : List Named) (e : EnvelopeValue) (n : Refusal)
    → Told files e → deposit_in files e ≡ Err n → IsLeastDepositFault files e n
least_from files e n (inl right) h = not_both (deposit_in files e) (deposit_of_files files e) n right.0 h
least_from files e n (inr wrong) h =
    subst (IsLeastDepositFault files e) (same_number (deposit_in files e) wrong.0 n wrong.1 h) wrong.2

refused_from : (files : List Named) (e : EnvelopeValue) (n : Refusal)
    → Told files e → IsLeastDepositFault files e n → deposit_in files e ≡ Err n
refused_from files e n (inl right) least = absurd (right.1 n least.0)
refused_from files e n (inr wrong) least =
    let same : wrong.0 ≡ n = one_refusal wrong.0 n (wrong.2.1 n least.0) (least.1 wrong.0 wrong.2.0) in
    wrong.1 ∙ ap (λ (m : Refusal). Err m) same

-- ---- a body is refused

refused_envelope : (first : Named) (files : List Named) (n : Refusal)
    → (envelope_of first.bytes >>= deposit_in files) ≡ Err n → IsRefusedAt first files n
refused_envelope first files n h = elim (bind_fault (envelope_of first.bytes) (deposit_in files) n h) [
  | inl wrong ↦ inl wrong
  | inr (e, is, wrong) ↦ inr (e, is, least_from files e n (told files e) wrong)
]

refused_sections : (body : List ℕ) (ss : List Named) (n : Refusal)
    → IsBundle body ss → sections_deposit ss ≡ Err n → IsRefused body n
unfolding sections_deposit
refused_sections body [] n bundle h = absurd (omega (arith, bundle.some))
refused_sections body (first ∷ files) n bundle h = inr (first, files, bundle, refused_envelope first files n h)

-- frames are refused exactly where they have a fault
abbrev pub FaultIsExact : Type 0
FaultIsExact = (body : List ℕ) (n : Refusal) → (frame body ≡ Err n) ↔ IsFault body n

is_refused : FrameIsExact
    → FaultIsExact → (body : List ℕ) (n : Refusal) → reading body ≡ Err n → IsRefused body n
unfolding reading
is_refused exact fault body n h = elim (bind_fault (frame body) sections_deposit n h) [
  | inl wrong ↦ inl ((fault body n).0 wrong)
  | inr (ss, is, wrong) ↦ refused_sections body ss n ((exact body ss).0 is) wrong
]

refuses_at : (body : List ℕ) (first : Named) (files : List Named) (n : Refusal)
    → frame body ≡ Ok (first ∷ files) → IsRefusedAt first files n → reading body ≡ Err n
refuses_at body first files n framed (inl wrong) = no_envelope body first files n framed wrong
refuses_at body first files n framed (inr step) = same_reading body first files step.0 framed step.1
    ∙ refused_from files step.0 n (told files step.0) step.2

refuses : FrameIsExact → FaultIsExact
    → (body : List ℕ) (n : Refusal) → IsRefused body n → reading body ≡ Err n
refuses exact fault body n (inl wrong) = no_frame body n ((fault body n).1 wrong)
refuses exact fault body n (inr step) =
    refuses_at body step.0 step.1 n ((exact body (step.0 ∷ step.1)).1 step.2) step.3

-- a body is refused exactly where the rules refuse it
pub refusal_exact : FrameIsExact
    → FaultIsExact → (body : List ℕ) (n : Refusal) → (reading body ≡ Err n) ↔ IsRefused body n
refusal_exact exact fault body n = (is_refused exact fault body n, refuses exact fault body n)
