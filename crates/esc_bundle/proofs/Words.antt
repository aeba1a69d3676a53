-- The words of a section's line.
use Rattle.std.proofs.Common.{◌≡◌, ℕ, suc, ◌+◌, ◌^◌, ◌<◌, Bool, true, false, cond, ltb, eqb, List}
use Rattle.std.proofs.Common.{[], ◌∷◌, length, take, drop, Option, Some, None, Err, refl, ap, subst}
use Rattle.std.proofs.Common.{◌∙◌, arith, inl, inr}
use Rattle.std.specs.Prelude.{option_map, not}
use Rattle.std.specs.List.{list_all, list_any, position_or_len}
use Rattle.std.specs.Char.{is_ascii_digit}
use Rattle.std.specs.Str.{bytes_eq, IsAscii}
use Rattle.std.specs.Str.Parse.{digits_value, ParsesUnsigned}
use Rattle.std.proofs.lemmas.Bool.{cases_lt, cases_Bool, and_parts}
use Rattle.std.proofs.lemmas.Bool.Decides.{nat_tests}
use Rattle.std.proofs.lemmas.Str.Ascii.{IsAscii-nil, IsAscii-cons}
use Rattle.std.proofs.lemmas.Str.Parse.{parse_digits}
use Rattle.esc_bundle.specs.declared.section.Section.{Section}
use Rattle.esc_bundle.specs.Bundle.{views, limit, is_name_byte}
use Rattle.esc_bundle.specs.ListLaws.{digits_model}
use Rattle.esc_bundle.specs.Reading.{parted}

-- ---- the parts round the first c

-- a first part with one more byte
abbrev pub with_byte : ℕ → List ℕ × List ℕ → List ℕ × List ℕ
with_byte b parts = (b ∷ parts.0, parts.1)

-- the parts before and after a place, if it is one of the list
abbrev parts_at : ℕ → List ℕ → Option (List ℕ × List ℕ)
parts_at p bs = cond (ltb p (length bs)) (Some (take p bs, drop (p + 1) bs)) None

parts_at-suc : (b p : ℕ) (bs : List ℕ) → option_map (with_byte b) (parts_at p bs) ≡ parts_at (suc p) (b ∷ bs)
parts_at-suc b p bs =
    let after_p : p + 1 ≡ suc p = omega arith in
    let after_suc : suc p + 1 ≡ suc (suc p) = omega arith in
    elim (cases_lt p (length bs)) [
      | inl lt ↦ let here : ltb p (length bs) ≡ true = grind (arith, nat_tests) in
          let there : ltb (suc p) (suc (length bs)) ≡ true = grind (arith, nat_tests) in
          rw (here, there, after_p, after_suc) refl
      | inr le ↦ let here : ltb p (length bs) ≡ false = grind (arith, nat_tests) in let there : ltb
          (suc p) (suc (length bs)) ≡ false = grind (arith, nat_tests) in rw (here, there) refl
    ]

parts_at-zero : (b : ℕ) (bs : List ℕ) → Some ([], bs) ≡ parts_at 0 (b ∷ bs)
parts_at-zero b bs = let here : ltb 0 (suc (length bs)) ≡ true = grind (arith, nat_tests) in rw here refl

by_head : (is_c : Bool) (b p : ℕ) (bs : List ℕ) → cond is_c (Some ([], bs))
    (option_map (with_byte b) (parts_at p bs)) ≡ parts_at (cond (not is_c) (1 + p) 0) (b ∷ bs)
by_head true b p bs = parts_at-zero b bs
by_head false b p bs = let next : 1 + p ≡ suc p = omega arith in rw next (parts_at-suc b p bs)

-- the parts round the first c are those round its place
parted_at : (c : ℕ) (bs : List ℕ) → parted c bs ≡ parts_at (position_or_len (λ b. eqb b c) bs) bs
parted_at c [] = refl
parted_at c (b ∷ bs) =
    ap (λ (o : Option (List ℕ × List ℕ)). cond (eqb b c) (Some ([], bs)) (option_map (with_byte b) o))
    (parted_at c bs) ∙ by_head (eqb b c) b (position_or_len (λ x. eqb x c) bs) bs

-- what a search for c found
abbrev Found : ℕ → List ℕ → Option ℕ → Type 0
Found c bs o = o ≡ cond (ltb (position_or_len (λ b. eqb b c) bs) (length bs))
    (Some (position_or_len (λ b. eqb b c) bs)) None

-- a text is parted at the byte that was found
pub parted-found : (c : ℕ) (bs : List ℕ) (i : ℕ)
    → Found c bs (Some i) → parted c bs ≡ Some (take i bs, drop (i + 1) bs)
parted-found c bs i h = elim (cases_Bool (ltb (position_or_len (λ b. eqb b c) bs) (length bs))) [
  | inl within ↦ let e : i ≡ position_or_len (λ b. eqb b c) bs = cc (rw within at h) in
      rw (parted_at c bs, within, e) refl
  | inr past ↦ absurd (cc (rw past at h))
]

-- a text without the byte is not parted
pub parted-not_found : (c : ℕ) (bs : List ℕ) → Found c bs None → parted c bs ≡ None
parted-not_found c bs h = elim (cases_Bool (ltb (position_or_len (λ b. eqb b c) bs) (length bs))) [
  | inl within ↦ absurd (cc (rw within at h))
  | inr past ↦ rw (parted_at c bs, past) refl
]

-- ---- names

-- a name among sections is one among their views
pub list_any-views : (name : List ℕ) (ss : List Section)
    → list_any (λ s. bytes_eq s.name.now name) ss ≡ list_any (λ s. bytes_eq s.name name) (views ss)
list_any-views name [] = refl
list_any-views name (s ∷ ss) = rw (list_any-views name ss) refl

name_byte_small : (b : ℕ) → is_name_byte b ≡ true → b < 128
name_byte_small b h = grind (arith, nat_tests)

-- a name is ASCII
pub IsAscii-name : (name : List ℕ) → list_all is_name_byte name ≡ true → IsAscii name
IsAscii-name [] h = IsAscii-nil
IsAscii-name (b ∷ bs) h = let p = and_parts _ _ h in IsAscii-cons b bs (name_byte_small b p.0) (IsAscii-name bs p.1)

-- ---- lengths

-- digits that 64 bits don't hold are above the limit
pub unparsed_over_limit : {E : Type 0} (text ds : List ℕ) (e : E) → ParsesUnsigned 64 10 text (Err e)
    → text ≡ ds → 0 < length ds → list_all is_ascii_digit ds ≡ true → limit < digits_value 10 ds
unparsed_over_limit {E} text ds e h same some all =
    let at_ds : ParsesUnsigned {E = E} 64 10 ds (Err e) =
    subst (λ (x : List ℕ). ParsesUnsigned {E = E} 64 10 x (Err e)) same h in
    let not_small = parse_digits digits_model 64 ds (Err e) at_ds all in
    elim (cases_lt (digits_value 10 ds) (2 ^ 64)) [
      | inl lt ↦ absurd (not_small (some, lt))
      | inr le ↦ omega arith
    ]
