-- From the tests in order to the deposit or its fault.
use Rattle.std.proofs.Common.{◌≡◌, ◌∙◌, ◌≤◌, ◌-◌, ℕ, true, false, List, [], ◌∷◌, length}
use Rattle.std.proofs.Common.{map, get_or, take, drop, refl, sym, ap, arith}
use Rattle.std.specs.Prelude.{Result, Ok, Err, IfOk, OnOk}
use Rattle.std.proofs.Math.Seq.{take-length}
use Rattle.esc_bundle.specs.Bundle.{Named, view, views}
use Rattle.esc_bundle.specs.declared.section.Section.{Section}
use Rattle.esc_bundle.specs.declared.refusal.Refusal.{Refusal}
use Rattle.esc_bundle.specs.declared.refusal.Refusal.TheVariants.{WrongFiles}
use Rattle.esc_bundle.specs.Frame.{frame}
use Rattle.esc_envelope.specs.EnvelopeValue.{EnvelopeValue}
use Rattle.esc_envelope.specs.Envelope.{envelope_of}
use Rattle.esc_tables.specs.DepositValue.{DepositValue}
use Rattle.esc_tables.specs.TableRow.{are_filed, rows_in, key_of}
use Rattle.esc_tables.specs.Objects.{objects_of, orphans_of}
use Rattle.esc_tables.specs.Reading.{tables_of, check_rows, deposit_of_files, deposit_in, parent_rows}
use Rattle.esc_tables.specs.Reading.{child_rows, sections_deposit, reading}

-- ---- the tests in order

-- files that are not those of the tables are refused
pub told_unfiled : (files : List Named) (e : EnvelopeValue)
    → are_filed files (tables_of e) ≡ false → deposit_in files e ≡ Err WrongFiles
unfolding deposit_in
told_unfiled files e wrong = rw wrong refl

-- rows that are refused refuse the deposit
pub told_rows : (files : List Named) (e : EnvelopeValue) (n : Refusal) → are_filed files (tables_of e)
    ≡ true → check_rows (rows_in files (tables_of e)) ≡ Err n → deposit_in files e ≡ Err n
unfolding deposit_in
told_rows files e n filed wrong = rw (filed, wrong) refl

-- rows that are right make the deposit
pub told_deposit : (files : List Named) (e : EnvelopeValue)
    → are_filed files (tables_of e) ≡ true → check_rows (rows_in files (tables_of e)) ≡ Ok tt
    → deposit_in files e ≡ Ok (deposit_of_files files e)
unfolding deposit_in
told_deposit files e filed right = rw (filed, right) refl

-- what returns the deposit of rows that pass returns that of files, where they are filed
pub read_filed : {E : Type 0} (files : List Named) (e : EnvelopeValue) (r : Result DepositValue E)
    → are_filed files (tables_of e) ≡ true
    → OnOk r (check_rows (rows_in files (tables_of e)) ≡ Ok tt)
    → IfOk r (λ d. d ≡ deposit_of_files files e) → IfOk r (λ d. deposit_in files e ≡ Ok d)
read_filed files e (Ok d) filed passed made =
    told_deposit files e filed passed ∙ ap (λ (x : DepositValue). Ok x) (sym made)
read_filed files e (Err fault) filed passed made = tt

-- a body that is no frame is refused as such
pub no_frame : (body : List ℕ) (n : Refusal) → frame body ≡ Err n → reading body ≡ Err n
unfolding reading
no_frame body n wrong = rw wrong refl

-- a body whose envelope is refused is refused by it
pub no_envelope : (body : List ℕ) (first : Named) (files : List Named) (n : Refusal)
    → frame body ≡ Ok (first ∷ files) → envelope_of first.bytes ≡ Err n → reading body ≡ Err n
unfolding reading sections_deposit
no_envelope body first files n framed wrong = rw (framed, wrong) refl

-- a body is read as its envelope and its files
pub same_reading : (body : List ℕ) (first : Named) (files : List Named) (e : EnvelopeValue) → frame body
    ≡ Ok (first ∷ files) → envelope_of first.bytes ≡ Ok e → reading body ≡ deposit_in files e
unfolding reading sections_deposit
same_reading body first files e framed told = rw (framed, told) refl

-- ---- a deposit is its parts

-- a deposit is made of its parts
pub made_of : (files : List Named) (e : EnvelopeValue) (d : DepositValue)
    → d.header ≡ e.header → d.counts ≡ e.counts → d.deletes ≡ map key_of (rows_in files e.deletes)
    → d.contents ≡ objects_of (parent_rows files e) (child_rows files e) → d.orphans
    ≡ orphans_of (parent_rows files e) (child_rows files e) → d ≡ deposit_of_files files e
unfolding deposit_of_files
made_of files e d header counts deletes contents orphans = λ i. record {
  header = header i;
  counts = counts i;
  deletes = deletes i;
  contents = contents i;
  orphans = orphans i;
}

abbrev no_section : Section
no_section = record { name = record { ref_ptr = (0, 0); now = [] }; bytes = record { ref_ptr = (0, 0); now = [] } }

-- the first section
abbrev pub first_of : List Section → Named
first_of ss = view (get_or ss 0 no_section)

-- the sections after the first
abbrev pub rest_of : List Section → List Named
rest_of ss = views (take (length ss - 1) (drop 1 ss))

-- sections are the first of them and the rest
first_and_rest : (ss : List Section) → 1 ≤ length ss → views ss ≡ first_of ss ∷ rest_of ss
first_and_rest [] some = absurd (omega arith)
first_and_rest (s ∷ ss) some =
    let others : length (s ∷ ss) - 1 ≡ length ss = omega arith in
    ap (λ (us : List Section). view s ∷ views us) (sym (ap (λ (n : ℕ). take n ss) others ∙ take-length ss))

-- a frame has its first section and the others
pub framed_as : (body : List ℕ) (items now : List Section) → frame body ≡ Ok (views items)
    → now ≡ items → 1 ≤ length now → frame body ≡ Ok (first_of now ∷ rest_of now)
framed_as body items now framed same some = framed ∙ ap (λ (ss : List Section). Ok (views ss))
    (sym same) ∙ ap (λ (ns : List Named). Ok ns) (first_and_rest now some)
