-- Where a section may be.
use Rattle.std.proofs.Common.{◌≡◌, ℕ, ◌<◌, ◌≤◌, Bool, true, false, List, length, Ok, refl, subst}
use Rattle.std.proofs.Common.{arith, inl, inr}
use Rattle.std.specs.Prelude.{nat_lt, nat_le, not, ◌&&◌, ◌||◌, ◌==◌}
use Rattle.std.specs.List.{list_any}
use Rattle.std.specs.Str.{bytes_eq}
use Rattle.std.specs.Str.Parse.{digits_value}
use Rattle.std.proofs.lemmas.Bool.{cases_lt, cases_Bool, eqb-true, and_parts, or_cases, not-true}
use Rattle.std.proofs.lemmas.Bool.Decides.{nat_tests}
use Rattle.std.proofs.lemmas.Slice.Eq.{bytes_eq-Decides}
use Rattle.esc_bundle.specs.declared.refusal.Refusal.TheVariants.{BrokenFrame, WrongName, RepeatedName, OverLimit}
use Rattle.esc_bundle.specs.Bundle.{Named, limit, envelope_name, is_name, is_length}
use Rattle.esc_bundle.specs.declared.fault.Fault.{Fault}
use Rattle.esc_bundle.specs.Tests.{Refuses}
use Rattle.esc_bundle.specs.Reading.{stands_at, length_at}
use Rattle.esc_bundle.proofs.StepFacts.{check_done, refused_first}
use Rattle.esc_bundle.specs.TestLaws.{check_passed}

-- a section of this name and length may come after these
pub record MayStand (before : List Named) (name : List ℕ) (size : ℕ) : Type 0 where
  pub named : is_name name ≡ true
  pub new : list_any (λ t. bytes_eq t.name name) before ≡ false
  pub room : length before < 64
  pub small : size ≤ limit
  pub first : length before ≡ 0 → name ≡ envelope_name

abbrev is_in_order : List Named → List ℕ → Bool
is_in_order before name = not (length before == 0) || bytes_eq name envelope_name

-- a section that passes its tests may stand
pub stands_takes : (before : List Named) (name : List ℕ) (size : ℕ) (u : Unit {0})
    → stands_at before name size ≡ Ok u → MayStand before name size
unfolding stands_at
stands_takes before name size u e =
    let name_passed = check_done (is_name name) WrongName _ u e in
    let new_passed = check_done (not (list_any (λ t. bytes_eq t.name name) before)) RepeatedName _ u name_passed.1 in
    let room_passed = check_done (nat_lt (length before) 64 && nat_le size limit) OverLimit _ u new_passed.1 in
    let room = and_parts (nat_lt (length before) 64) (nat_le size limit) room_passed.0 in
    let order = check_passed (is_in_order before name) BrokenFrame u room_passed.1 in
    record {
      named = name_passed.0;
      new = not-true _ new_passed.0;
      room = let below : nat_lt (length before) 64 ≡ true = room.0 in grind (arith, nat_tests);
      small = let within : nat_le size limit ≡ true = room.1 in grind (arith, nat_tests);
      first = λ none. elim (or_cases _ _ order) [
        | inl some ↦ let other : (length before == 0) ≡ false = not-true _ some in absurd (grind (arith, nat_tests))
        | inr same ↦ (bytes_eq-Decides _ _).0 same
      ];
    }

-- a section that may stand passes its tests
pub stands_again : (before : List Named) (name : List ℕ) (size : ℕ)
    → MayStand before name size → stands_at before name size ≡ Ok tt
unfolding stands_at
stands_again before name size may =
    let below = may.room in
    let within = may.small in
    let room : nat_lt (length before) 64 ≡ true = grind (arith, nat_tests) in
    let fits : nat_le size limit ≡ true = grind (arith, nat_tests) in
    let order : is_in_order before name ≡ true = elim (cases_Bool (length before == 0)) [
      | inl none ↦ let same : bytes_eq name envelope_name ≡ true =
          (bytes_eq-Decides _ _).1 (may.first (eqb-true _ _ none)) in rw (none, same) refl
      | inr some ↦ rw some refl
    ] in
    rw (may.named, may.new, room, fits, order) refl

-- of a length over the limit only that counts
pub stands_capped : (before : List Named) (name : List ℕ) (a b : ℕ) → (a ≤ limit → a ≡ b)
    → (limit < a → limit < b) → stands_at before name a ≡ stands_at before name b
unfolding stands_at
stands_capped before name a b exact over = elim (cases_lt limit a) [
  | inl lt ↦
      let above = over lt in
      let a_over : nat_le a limit ≡ false = grind (arith, nat_tests) in
      let b_over : nat_le b limit ≡ false = grind (arith, nat_tests) in
      rw (a_over, b_over) refl
  | inr le ↦ rw (exact le) refl
]

-- ---- a section's line

-- the code's value of a length: its own up to the limit, and over the limit something over it
pub record Capped (size : List ℕ) (value : ℕ) : Type 0 where
  pub form : is_length size ≡ true
  pub exact : value ≤ limit → value ≡ digits_value 10 size
  pub over : limit < value → limit < digits_value 10 size

-- a capped length is told where the section may stand
pub length_told : (before : List Named) (name size : List ℕ) (value : ℕ) (u : Unit {0})
    → Capped size value → stands_at before name value ≡ Ok u → length_at before name size ≡ Ok value
unfolding length_at
length_told before name size value u cap stands =
    let same = cap.exact (stands_takes before name value u stands).small in
    rw (cap.form, ← same, stands) refl

-- a capped length is refused where the section may not stand
pub length_refused : (before : List Named) (name size : List ℕ) (value : ℕ) (e : Fault) → Capped
    size value → Refuses e (stands_at before name value) → Refuses e (length_at before name size)
unfolding length_at
length_refused before name size value e cap refused =
    let capped = stands_capped before name value (digits_value 10 size) cap.exact cap.over in
    rw cap.form (refused_first e _ _ (subst (Refuses e) capped refused))
