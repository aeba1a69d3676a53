-- Which row, file or table is refused.
use Rattle.std.proofs.Common.{◌≡◌, ◌∙◌, ℕ, zero, suc, ◌+◌, ◌<◌, ◌≤◌, Bool, List, []}
use Rattle.std.proofs.Common.{◌∷◌, ◌++◌, length, take, drop, get_or, refl, sym, ap, subst, arith, inl}
use Rattle.std.proofs.Common.{Some}
use Rattle.std.specs.Prelude.{slice_get, ◌==◌, true}
use Rattle.std.specs.List.{list_all, zip}
use Rattle.std.specs.Str.{is_utf8}
use Rattle.std.proofs.lemmas.Bool.{and_parts}
use Rattle.std.proofs.lemmas.Bool.Decides.{nat_tests}
use Rattle.std.proofs.lemmas.List.{length-take}
use Rattle.std.proofs.lemmas.Option.{slice_get-get_or, slice_get_read}
use Rattle.std.proofs.lemmas.Slice.Zip.{length-zip}
use Rattle.esc_csv.specs.Lines.{Line}
use Rattle.esc_bundle.specs.declared.refusal.Refusal.{Refusal}
use Rattle.esc_bundle.specs.declared.fault.Fault.{Fault}
use Rattle.esc_bundle.specs.declared.fault.Fault.TheVariants.{Refused as refused_by, NoMemory as no_memory}
use Rattle.esc_envelope.specs.EnvelopeValue.{TableValue}
use Rattle.esc_pack.specs.declared.bundle_fault.BundleFault.{BundleFault}
use Rattle.esc_pack.specs.declared.bundle_fault.BundleFault.TheVariants.{Refused, Unmatched, Heading}
use Rattle.esc_pack.specs.declared.bundle_fault.BundleFault.TheVariants.{Row, Marked, NoMemory}
use Rattle.esc_pack.specs.GivenRows.{GivenTable, has_width}
use Rattle.esc_pack.specs.BundleRefusals.{of_fault, OrNoMemory, is_table_row, IsFileRefusal}
use Rattle.esc_pack.specs.BundleRefusals.{IsTableRefusal, IsTablesRefusal}
use Rattle.esc_pack.proofs.SectionFacts.{IsFile, pair_at}

-- another reason for the same refusal
pub or_weaker : (P Q : BundleFault → Type 0)
    → ((e : BundleFault) → P e → Q e) → (e : BundleFault) → OrNoMemory P e
    → OrNoMemory Q e
or_weaker P Q more NoMemory refused = tt
or_weaker P Q more (Refused code) refused = more (Refused code) refused
or_weaker P Q more Unmatched refused = more Unmatched refused
or_weaker P Q more (Heading table file) refused = more (Heading table file) refused
or_weaker P Q more (Row table file row) refused = more (Row table file row) refused
or_weaker P Q more (Marked table) refused = more (Marked table) refused

-- the element that comes next, and those after it
pub drop_next : {A : Type 0} (xs : List A) (k : ℕ) {x : A} {rest : List A} → drop k xs ≡ x ∷ rest
    → (slice_get xs k ≡ Some x) × (drop (k + 1) xs ≡ rest)
drop_next [] zero e = absurd cc
drop_next [] (suc k) e = absurd cc
drop_next (y ∷ ys) zero e = (cc, cc)
drop_next (y ∷ ys) (suc k) e =
    let more = drop_next ys k e in
    let one_more : suc k + 1 ≡ suc (k + 1) = omega arith in
    (more.0, rw one_more more.1)

-- a row that isn't broken has its width
pub wide : (width : ℕ) (fields : Line)
    → 0 < width → is_table_row width fields ≡ true → has_width width fields ≡ true
wide width fields some right =
    let many = (and_parts (length fields == width) (list_all is_utf8 fields) right).0 in
    rw many (grind (arith, nat_tests))

-- a file of a table is refused
pub file_refused : {given : GivenTable}
    {i table : ℕ} {heading : Bool} {text : List ℕ} {e : BundleFault} (t : TableValue)
    → IsFile given i heading text → IsFileRefusal t heading text table i e → IsTableRefusal (t, given) table e
file_refused {given} {i} {table} {heading} {text} {e} t file refused =
    inl (
      i,
      text,
      slice_get-get_or given.files i [] file.inside ∙ ap (λ (f : List ℕ). Some f) (sym file.is),
      subst (λ (h : Bool). IsFileRefusal t h text table i e) file.same_heading refused,
    )

-- a table is refused
pub table_refused : (tables : List TableValue)
    (given : List GivenTable) (first : ℕ) {i : ℕ} {t : TableValue} {g : GivenTable}
    {e : BundleFault} → i < length tables
    → length given ≡ length tables → t ≡ get_or tables i t → g ≡ get_or given i g
    → IsTableRefusal (t, g) (first + i) e → IsTablesRefusal (zip tables given) first e
table_refused tables given first {i} {t} {g} lt same is_t is_g refused =
    let pair = pair_at tables given lt same is_t is_g in
    (i, (t, g), slice_get_read (zip tables given) _ i (t, g) refl pair.0 pair.1, refused)

get_front : {A : Type 0} (front back : List A) (k : ℕ) {x : A}
    → slice_get front k ≡ Some x → slice_get (front ++ back) k ≡ Some x
get_front [] back k at = absurd cc
get_front (a ∷ front) back zero at = at
get_front (a ∷ front) back (suc k) at = get_front front back k at

get_back : {A : Type 0} (front back : List A) (k : ℕ)
    → slice_get (front ++ back) (length front + k) ≡ slice_get back k
get_back [] back k =
    let none : 0 + k ≡ k = omega arith in ap (slice_get back) none
get_back (a ∷ front) back k =
    let next : length (a ∷ front) + k ≡ suc (length front + k) = omega arith in
    ap (slice_get (a ∷ front ++ back)) next ∙ get_back front back k

-- a table among the first ones is refused
pub front_refused : {pairs : List (TableValue × GivenTable)}
    {e : BundleFault} (front back : List (TableValue × GivenTable))
    → pairs ≡ front ++ back → IsTablesRefusal front 0 e → IsTablesRefusal pairs 0 e
front_refused {pairs} {e} front back parts refused = (
  refused.0,
  refused.1,
  ap (λ (ps : List (TableValue × GivenTable)). slice_get ps refused.0) parts
      ∙ get_front front back refused.0 refused.2,
  refused.3,
)

-- a table among the last ones is refused
pub back_refused : {pairs : List (TableValue × GivenTable)}
    {first : ℕ} {e : BundleFault} (front back : List (TableValue × GivenTable))
    → pairs ≡ front ++ back → length front ≡ first
    → IsTablesRefusal back first e → IsTablesRefusal pairs 0 e
back_refused {pairs} {first} {e} front back parts many refused =
    let k : ℕ = refused.0 in
    let behind : length front + k ≡ first + k = ap (λ (n : ℕ). n + k) many in
    let at = ap (λ (ps : List (TableValue × GivenTable)). slice_get ps (first + k)) parts
    ∙ ap (slice_get (front ++ back)) (sym behind) ∙ get_back front back k ∙ refused.2 in
    let counted : first + k ≡ 0 + (first + k) = omega arith in
    (first + k, refused.1, at, subst (λ (n : ℕ). IsTableRefusal refused.1 n e) counted refused.3)

-- as many pairs as first tables
pub pairs_many : {A B : Type 0} (xs : List A) (ys : List B) → length xs ≤ length ys
    → length (zip xs (take (length xs) ys)) ≡ length xs
pairs_many xs ys le = omega (arith, length-zip xs (take (length xs) ys), length-take (length xs) ys)

-- what a body, a frame or an envelope is refused for, files are refused for
pub fault_refused : (P : BundleFault → Type 0) (f : Fault)
    → ((n : Refusal) → f ≡ refused_by n → P (Refused n))
    → OrNoMemory P (of_fault f)
fault_refused P (refused_by n) told = told n refl
fault_refused P no_memory told = tt
