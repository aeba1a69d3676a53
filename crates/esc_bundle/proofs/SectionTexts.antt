-- What is read as a section is its text, and may be there.
use Rattle.std.proofs.Common.{◌≡◌, ℕ, zero, suc, ◌+◌, ◌<◌, ◌≤◌, ◌≢◌, Bool, true, false}
use Rattle.std.proofs.Common.{cond, eqb, List, [], ◌∷◌, ◌++◌, length, take, drop, get_or, Option, Some}
use Rattle.std.proofs.Common.{None, Ok, refl, sym, ap, subst, ◌∙◌, arith, inl, inr, append_assoc}
use Rattle.std.specs.Prelude.{option_map, nat_lt, ◌&&◌, ◌==◌, slice_index, IfSome, slice_get, IsTrue}
use Rattle.std.specs.List.{list_any}
use Rattle.std.specs.Fmt.{decimal}
use Rattle.std.specs.Str.{bytes_eq}
use Rattle.std.specs.Str.Parse.{digits_value}
use Rattle.std.proofs.lemmas.Bool.{eqb-true, and_parts, or_cases, or_parts, not-true}
use Rattle.std.proofs.lemmas.Bool.Decides.{nat_tests}
use Rattle.std.proofs.lemmas.Slice.Eq.{bytes_eq-Decides}
use Rattle.std.proofs.lemmas.Fmt.{decimal-digits_value}
use Rattle.std.proofs.lemmas.List.{take-append-drop, length-take-le, length_push, drop_more}
use Rattle.std.proofs.lemmas.List.Elements.{All-push}
use Rattle.std.proofs.lemmas.List.Quantifiers.{all_pairs_push}
use Rattle.std.proofs.lemmas.Option.{same_Some}
use Rattle.esc_bundle.specs.declared.refusal.Refusal.TheVariants.{BrokenFrame}
use Rattle.esc_bundle.specs.Bundle.{Named, limit, is_name, is_length, envelope_name, section_text, AreSections}
use Rattle.esc_bundle.specs.Tests.{or_fault}
use Rattle.esc_bundle.specs.Reading.{parted, stands_at, length_at, section_at}
use Rattle.esc_bundle.proofs.StepFacts.{check_done, value_there, done_is}
use Rattle.esc_bundle.proofs.Words.{with_byte}
use Rattle.esc_bundle.proofs.Standing.{MayStand, stands_takes}
use Rattle.esc_bundle.specs.ListLaws.{digits_model}
use Rattle.esc_bundle.specs.TestLaws.{bind_done}

-- a section may come after these
abbrev pub MayFollow : List Named → Named → Type 0
MayFollow before s = MayStand before s.name (length s.bytes)

-- ---- the bytes round the first c

parted_tail : (b c : ℕ) (bs : List ℕ) (o : Option (List ℕ × List ℕ)) (p : List ℕ × List ℕ)
    → ((q : List ℕ × List ℕ) → o ≡ Some q → bs ≡ q.0 ++ (c ∷ q.1))
    → option_map (with_byte b) o ≡ Some p → b ∷ bs ≡ p.0 ++ (c ∷ p.1)
parted_tail b c bs None p h e = absurd cc
parted_tail b c bs (Some q) p h e =
    let same : with_byte b q ≡ p = same_Some (with_byte b q) p e in
    subst (λ (r : List ℕ × List ℕ). b ∷ bs ≡ r.0 ++ (c ∷ r.1))
    same (ap (λ (x : List ℕ). b ∷ x) (h q refl))

parted_head : (is_c : Bool) (b c : ℕ) (bs : List ℕ) (p : List ℕ × List ℕ) → (is_c ≡ true → b ≡ c)
    → ((q : List ℕ × List ℕ) → parted c bs ≡ Some q → bs ≡ q.0 ++ (c ∷ q.1)) → cond
    is_c (Some ([], bs)) (option_map (with_byte b) (parted c bs)) ≡ Some p → b ∷ bs ≡ p.0 ++ (c ∷ p.1)
parted_head true b c bs p same h e =
    let whole : ([], bs) ≡ p = same_Some ([], bs) p e in
    subst (λ (r : List ℕ × List ℕ). b ∷ bs ≡ r.0 ++ (c ∷ r.1))
    whole (ap (λ (x : ℕ). x ∷ bs) (same refl))
parted_head false b c bs p same h e = parted_tail b c bs (parted c bs) p h e

-- a text that is parted at a byte is its two parts and the byte
pub parted_takes : (c : ℕ) (bs : List ℕ) (p : List ℕ × List ℕ)
    → parted c bs ≡ Some p → bs ≡ p.0 ++ (c ∷ p.1)
parted_takes c [] p e = absurd cc
parted_takes c (b ∷ bs) p e = parted_head (eqb b c) b c bs p (eqb-true b c) (λ q. parted_takes c bs q) e

-- ---- what a section's line says

-- what is known of a section's line whose length was told
pub record Told (before : List Named) (name size : List ℕ) (value : ℕ) : Type 0 where
  pub form : is_length size ≡ true
  pub value_is : value ≡ digits_value 10 size
  pub stands : MayStand before name value

-- a length that is told is that of the line
pub length_takes : (before : List Named) (name size : List ℕ) (value : ℕ)
    → length_at before name size ≡ Ok value → Told before name size value
unfolding length_at
length_takes before name size value e =
    let form = check_done (is_length size) BrokenFrame _ value e in
    let stands = bind_done (stands_at before name (digits_value 10 size)) _ value form.1 in
    let same : digits_value 10 size ≡ value = done_is (digits_value 10 size) value stands.2 in
    record {
      form = form.0;
      value_is = sym same;
      stands = subst (MayStand before name) same (stands_takes before name (digits_value 10 size) stands.0 stands.1);
    }

-- a length's text is the decimal text of its value
pub size_text : (size : List ℕ)
    → is_length size ≡ true → digits_value 10 size ≤ limit → decimal (digits_value 10 size) ≡ size
size_text size form small =
    let p = and_parts _ _ form in
    let q = and_parts _ _ p.0 in
    let some : 0 < length size = let a : nat_lt 0 (length size) ≡ true = q.0 in grind (arith, nat_tests) in
    decimal-digits_value digits_model size q.1 some (λ zero_first. elim (or_cases _ _ p.1) [
      | inl other ↦ let a : (slice_index size 0 == 48) ≡ false = not-true _ other in
          absurd (grind (arith, nat_tests))
      | inr one ↦ eqb-true _ _ one
    ]) (omega arith)

-- ---- a section

regroup : (name size bytes tail : List ℕ) → (name ++ (32 ∷ size))
    ++ (10 ∷ (bytes ++ (10 ∷ tail))) ≡ (name ++ (32 ∷ (size ++ (10 ∷ (bytes ++ (10 ∷ [])))))) ++ tail
regroup name size bytes tail = simp append_assoc

-- the parts of a section, as its text
parts_text : (name size after : List ℕ) (n : ℕ) → n ≡ digits_value 10 size
    → is_length size ≡ true → n ≤ limit → n < length after → slice_index after n ≡ 10
    → (name ++ (32 ∷ size)) ++ (10 ∷ after)
    ≡ section_text (record { name = name; bytes = take n after }) ++ drop (n + 1) after
parts_text name size after n is form small lt feed =
    let len : length (take n after) ≡ n = length-take-le n after (omega arith) in
    let size_is : decimal (length (take n after)) ≡ size =
    ap decimal (len ∙ is) ∙ size_text size form (omega (arith, is)) in
    let rest : drop n after ≡ 10 ∷ drop (n + 1) after =
    drop_more after n 0 lt ∙ ap (λ (b : ℕ). b ∷ drop (n + 1) after) feed in
    let cut : after ≡ take n after ++ (10 ∷ drop (n + 1) after) =
    sym (take-append-drop n after) ∙ ap (λ (x : List ℕ). take n after ++ x) rest in
    ap (λ (x : List ℕ). (name ++ (32 ∷ size)) ++ (10 ∷ x)) cut
    ∙ regroup name size (take n after) (drop (n + 1) after)
    ∙ ap (λ (x : List ℕ). (name ++ (32 ∷ (x ++ (10 ∷ (take n after ++ (10 ∷ []))))))
    ++ drop (n + 1) after) (sym size_is)

-- what is read as a section is its text, and may be there
pub section_takes : (before : List Named) (rest : List ℕ) (x : Named × List ℕ)
    → section_at before rest ≡ Ok x → (rest ≡ section_text x.0 ++ x.1) × MayFollow before x.0
unfolding section_at
section_takes before rest x e =
    let l = bind_done (or_fault BrokenFrame (parted 10 rest)) _ x e in
    let w = bind_done (or_fault BrokenFrame (parted 32 l.0.0)) _ x l.2 in
    let v = bind_done (length_at before w.0.0 w.0.1) _ x w.2 in
    let c = check_done (nat_lt v.0 (length l.0.1) && (slice_index l.0.1 v.0 == 10)) BrokenFrame _ x v.2 in
    let told = length_takes before w.0.0 w.0.1 v.0 v.1 in
    let ends = and_parts _ _ c.0 in
    let lt : v.0 < length l.0.1 = let a : nat_lt v.0 (length l.0.1) ≡ true = ends.0 in grind (arith, nat_tests) in
    let len : length (take v.0 l.0.1) ≡ v.0 = length-take-le v.0 l.0.1 (omega arith) in
    let line : rest ≡ (w.0.0 ++ (32 ∷ w.0.1)) ++ (10 ∷ l.0.1) = parted_takes
    10 rest l.0 (value_there BrokenFrame _ _ l.1) ∙ ap (λ (y : List ℕ). y ++ (10 ∷ l.0.1))
    (parted_takes 32 l.0.0 w.0 (value_there BrokenFrame _ _ w.1)) in
    let made : Named × List ℕ = (record { name = w.0.0; bytes = take v.0 l.0.1 }, drop (v.0 + 1) l.0.1) in
    let text : rest ≡ section_text made.0 ++ made.1 = line ∙ parts_text
    w.0.0 w.0.1 l.0.1 v.0 told.value_is told.form told.stands.small lt (eqb-true _ _ ends.1) in
    let follows : MayFollow before made.0 = subst (MayStand before w.0.0) (sym len) told.stands in
    subst (λ (y : Named × List ℕ). (rest ≡ section_text y.0 ++ y.1) × MayFollow before y.0)
    (done_is made x c.1) (text, follows)

-- ---- sections in order

-- no sections may stand
pub no_sections : AreSections []
no_sections = record {
  named = λ k d lt. absurd (omega arith);
  small = λ k d lt. absurd (omega arith);
  distinct = λ i j d lt in_range. absurd (omega arith);
  few = omega arith;
  first = tt;
}

lacks_at : {X : Type 0} (p : X → Bool) (xs : List X)
    → list_any p xs ≡ false → (k : ℕ) (d : X) → k < length xs → p (get_or xs k d) ≡ false
lacks_at p [] h k d lt = absurd (omega arith)
lacks_at p (x ∷ xs) h zero d lt = (or_parts (p x) (list_any p xs) h).0
lacks_at p (x ∷ xs) h (suc k) d lt = lacks_at p xs (or_parts (p x) (list_any p xs) h).1 k d (omega arith)

first_push : (before : List Named) (s : Named) → AreSections before
    → MayFollow before s → IfSome (slice_get (before ++ s ∷ []) 0) (λ t. t.name ≡ envelope_name)
first_push [] s old may = may.first refl
first_push (b ∷ bs) s old may = old.first

-- one more section
pub sections_push : (before : List Named) (s : Named)
    → AreSections before → MayFollow before s → AreSections (before ++ s ∷ [])
sections_push before s old may = record {
  named = All-push (λ (t : Named). IsTrue (is_name t.name)) before s old.named may.named;
  small = All-push (λ (t : Named). length t.bytes ≤ limit) before s old.small may.small;
  distinct = all_pairs_push (λ (t u : Named). t.name ≢ u.name) before s old.distinct (λ k d lt. λ same. absurd (
      let other : bytes_eq (get_or before k d).name s.name ≡ false = lacks_at _ before may.new k d lt in
      let equal : bytes_eq (get_or before k d).name s.name ≡ true = (bytes_eq-Decides _ _).1 same in
      cc));
  few = rw length_push (omega (arith, may.room));
  first = first_push before s old may;
}
