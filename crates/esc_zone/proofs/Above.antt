-- The names above a name, and which of them are delegated.
use Rattle.std.proofs.Common.{◌≡◌, ℕ, ◌+◌, ◌-◌, ◌≤◌, ◌<◌, true, false, List, [], ◌∷◌}
use Rattle.std.proofs.Common.{length, drop, Option, None}
use Rattle.std.proofs.Common.{Some, slice_get, refl, sym, ap, ◌∙◌, subst, arith, suc, take}
use Rattle.std.specs.Prelude.{cond, not, ◌&&◌, nat_le}
use Rattle.std.proofs.lemmas.Bool.Decides.{nat_tests}
use Rattle.std.proofs.lemmas.Grind.{common_steps}
use Rattle.std.specs.Prelude.{filter}
use Rattle.std.specs.List.{slice_split, position, prefix_len, position_or_len, take_while, last_or}
use Rattle.std.specs.List.{list_all, onto_first}
use Rattle.esc_zone.specs.Names.{is_dot, is_label, is_zone_name, names_above, name_above, last_label}
use Rattle.std.specs.Option.{unwrap_or}
use Rattle.esc_zone.specs.Drafts.{ZoneNotes, is_inside, cuts_at}

-- a name and those above it
abbrev pub names_from : Option (List ℕ) → List (List ℕ)
names_from None = []
names_from (Some name) = name ∷ names_above name

-- the delegated names at and above a name, if there is one
abbrev pub cuts_from : ZoneNotes → Option (List ℕ) → List (List ℕ)
cuts_from z None = []
cuts_from z (Some name) = cuts_at z name

-- the names above a name are the next one and those above that
pub names_next : (name : List ℕ) → names_above name ≡ names_from (name_above name)
names_next [] = refl
names_next (b ∷ rest) =
    elim (is_dot b) as (λ v. cond v (rest ∷ names_above rest) (names_above rest)
    ≡ names_from (slice_get (cond v (rest ∷ names_above rest) (names_above rest)) 0)) [
      | true ↦ refl
      | false ↦ names_next rest
    ]

cuts_among : (z : ZoneNotes) (found : Option (List ℕ))
    → filter z.is_delegated (take_while (is_inside z) (names_from found)) ≡ cuts_from z found
cuts_among z None = refl
cuts_among z (Some name) = refl

cuts_above : (z : ZoneNotes) (name : List ℕ)
    → filter z.is_delegated (take_while (is_inside z) (names_above name)) ≡ cuts_from z (name_above name)
cuts_above z name =
    ap (λ names. filter z.is_delegated (take_while (is_inside z) names)) (names_next name)
    ∙ cuts_among z (name_above name)

take_one : (k : ℕ) (x : List ℕ) (xs : List (List ℕ)) → take (1 + k) (x ∷ xs) ≡ x ∷ take k xs
take_one k x xs =
    let e : suc k ≡ 1 + k = omega arith in
    subst (λ n. take n (x ∷ xs) ≡ x ∷ take k xs) e refl

-- of a name in the zone: itself, if it is delegated, and those above it
pub cuts_inside : (z : ZoneNotes) (name : List ℕ) → is_inside z name ≡ true
    → cuts_at z name
    ≡ cond (z.is_delegated name) (name ∷ cuts_from z (name_above name)) (cuts_from z (name_above name))
cuts_inside z name inside =
    let names = names_above name in
    let p = is_inside z in
    ap (λ b. filter z.is_delegated (take (cond b (1 + prefix_len p names) 0) (name ∷ names))) inside
    ∙ ap (filter z.is_delegated) (take_one (prefix_len p names) name names)
    ∙ ap (λ rest. cond (z.is_delegated name) (name ∷ rest) rest) (cuts_above z name)

-- of a name that is not in it: none
pub cuts_outside : (z : ZoneNotes) (name : List ℕ) → is_inside z name ≡ false → cuts_at z name ≡ []
cuts_outside z name outside =
    let names = names_above name in
    ap (λ b. filter z.is_delegated (take (cond b (1 + prefix_len (is_inside z) names) 0) (name ∷ names))) outside

-- the parts of a name above another are parts of that one
split_above : (xs a : List ℕ) → name_above xs ≡ Some a
    → (p : List ℕ) × (slice_split is_dot xs ≡ p ∷ slice_split is_dot a)
split_above [] a h = absurd (cc h)
split_above (b ∷ rest) a h =
    (elim (is_dot b) as (λ v. slice_get (cond v (rest ∷ names_above rest) (names_above rest)) 0 ≡ Some a
    → (p : List ℕ) × (cond v ([] ∷ slice_split is_dot rest) (onto_first b (slice_split is_dot rest))
    ≡ p ∷ slice_split is_dot a)) [
      | true ↦ λ e. (let same : rest ≡ a = cc e in ([], ap (λ (y : List ℕ). [] ∷ slice_split is_dot y) same))
      | false ↦ λ e. (let w = split_above rest a e in (b ∷ w.0, ap (onto_first b) w.1))
    ]) h

length_above : (xs a : List ℕ) → name_above xs ≡ Some a → length a ≤ length xs
length_above [] a h = absurd (cc h)
length_above (b ∷ rest) a h =
    (elim (is_dot b) as (λ v. slice_get (cond v (rest ∷ names_above rest) (names_above rest)) 0 ≡ Some a
    → length a ≤ length (b ∷ rest)) [
      | true ↦ λ e. (let same : rest ≡ a = cc e in omega (arith, ap (λ (y : List ℕ). length y) same))
      | false ↦ λ e. omega (arith, length_above rest a e)
    ]) h

-- what is above a name is a name
pub above_is_name : (xs a : List ℕ)
    → is_zone_name xs ≡ true → name_above xs ≡ Some a → is_zone_name a ≡ true
above_is_name xs a named h =
    let w = split_above xs a h in
    let short = length_above xs a h in
    let all : (nat_le (length xs) 253 && list_all is_label (w.0 ∷ slice_split is_dot a)) ≡ true =
    ap (λ parts. nat_le (length xs) 253 && list_all is_label parts) (sym w.1) ∙ named in
    grind (arith, nat_tests, all, short)

-- the place of the first dot
pub found_position : (xs : List ℕ) (at : ℕ) → Some at ≡ position is_dot xs
    → (at ≡ position_or_len is_dot xs) × (position_or_len is_dot xs < length xs)
found_position xs at h = grind (arith, nat_tests)

-- no dot before the end
pub no_position : (xs : List ℕ) → None ≡ position is_dot xs → length xs ≤ position_or_len is_dot xs
no_position xs h = grind (arith, nat_tests)

drop_one : (k : ℕ) (x : ℕ) (xs : List ℕ) → drop (1 + k) (x ∷ xs) ≡ drop k xs
drop_one k x xs =
    let e : suc k ≡ 1 + k = omega arith in
    subst (λ n. drop n (x ∷ xs) ≡ drop k xs) e refl

above_first : (xs : List ℕ) → position_or_len is_dot xs < length xs
    → name_above xs ≡ Some (drop (1 + position_or_len is_dot xs) xs)
above_first [] h = absurd (omega arith)
above_first (b ∷ rest) h =
    let at = position_or_len is_dot rest in
    (elim (is_dot b) as (λ v. cond (not v) (1 + at) 0 < length (b ∷ rest)
    → slice_get (cond v (rest ∷ names_above rest) (names_above rest)) 0
    ≡ Some (drop (1 + cond (not v) (1 + at) 0) (b ∷ rest))) [
      | true ↦ λ k. refl
      | false ↦ λ k. (let more : at < length rest = omega arith in
          above_first rest more ∙ ap Some (sym (drop_one (1 + at) b rest)))
    ]) h

above_nowhere : (xs : List ℕ) → length xs ≤ position_or_len is_dot xs → None ≡ name_above xs
above_nowhere [] h = refl
above_nowhere (b ∷ rest) h =
    let at = position_or_len is_dot rest in
    (elim (is_dot b) as (λ v. length (b ∷ rest) ≤ cond (not v) (1 + at) 0
    → None ≡ slice_get (cond v (rest ∷ names_above rest) (names_above rest)) 0) [
      | true ↦ λ k. absurd (omega arith)
      | false ↦ λ k. (let more : length rest ≤ at = omega arith in above_nowhere rest more)
    ]) h

-- what follows the first dot
pub above_at : (xs : List ℕ) (at : ℕ)
    → Some at ≡ position is_dot xs → name_above xs ≡ Some (drop (at + 1) xs)
above_at xs at h =
    let w = found_position xs at h in
    let e : 1 + position_or_len is_dot xs ≡ at + 1 = omega (arith, w.0) in
    above_first xs w.1 ∙ ap (λ n. Some (drop n xs)) e

-- a name without a dot has none above it
pub above_none : (xs : List ℕ) → None ≡ position is_dot xs → None ≡ name_above xs
above_none xs h = above_nowhere xs (no_position xs h)

-- a list from one place to its end
pub to_end : (k : ℕ) (xs : List ℕ) → take (length xs - k) (drop k xs) ≡ drop k xs
to_end k xs = grind (arith, common_steps)

-- the last label is that of what follows the first dot
pub label_after : (xs a : List ℕ) → Some a ≡ name_above xs → last_label xs ≡ last_label a
label_after xs a h =
    ap (λ names. unwrap_or (last_or (Some xs) names) []) (names_next xs ∙ ap names_from (sym h))

-- a name that has none above it is its last label
pub label_here : (xs : List ℕ) → None ≡ name_above xs → xs ≡ last_label xs
label_here xs h =
    ap (λ found. unwrap_or (last_or (Some xs) (names_from found)) []) h
    ∙ ap (λ names. unwrap_or (last_or (Some xs) names) []) (sym (names_next xs))
