-- Tables in the order of their names.
use Rattle.std.proofs.Common.{◌≡◌, ◌∙◌, ℕ, suc, ◌+◌, ◌<◌, ◌≤◌, Bool, false, cond, List}
use Rattle.std.proofs.Common.{[], ◌∷◌, ◌++◌, length, map, filter, take, get_or, refl, sym, ap, inl, inr}
use Rattle.std.proofs.Common.{arith}
use Rattle.std.specs.Borrow.{Bor}
use Rattle.std.specs.Prelude.{not, unwrap_or, nat_lt, All}
use Rattle.std.specs.List.{insert, position, position_or_len, fold}
use Rattle.std.proofs.lemmas.Bool.{cases_Bool}
use Rattle.std.proofs.lemmas.Bool.Decides.{nat_tests}
use Rattle.std.proofs.lemmas.List.{take_more}
use Rattle.std.proofs.lemmas.List.Elements.{All-nil, All-cons, All-tail, All-filter, filter-append}
use Rattle.std.proofs.lemmas.List.Sums.{fold_push, prefix_len-le-length}
use Rattle.esc_envelope.specs.EnvelopeValue.{TableValue}
use Rattle.esc_tables.specs.Reading.{is_before, placed, by_name}

one_and : (n : ℕ) → 1 + n ≡ suc n
one_and n = omega arith

-- ---- the place of a table

-- the place of the first that passes, or the end
pub place_or_end : {X : Type 0} (p : X → Bool) (xs : List X)
    → unwrap_or (position p xs) (length xs) ≡ position_or_len p xs
place_or_end p xs =
    let fits : position_or_len p xs ≤ length xs = prefix_len-le-length (λ x. not (p x)) xs in
    elim (cases_Bool (nat_lt (position_or_len p xs) (length xs))) [
      | inl e ↦ rw e refl
      | inr e ↦ let ge : length xs ≤ position_or_len p xs = grind (arith, nat_tests) in rw e (omega arith)
    ]

-- this place is within the list
pub place_fits : {X : Type 0} (p : X → Bool) (xs : List X) → unwrap_or (position p xs) (length xs) ≤ length xs
place_fits p xs = rw (place_or_end p xs) (prefix_len-le-length (λ x. not (p x)) xs)

-- the table that is pointed to
abbrev pub pointed : Bor TableValue → TableValue
pointed t = t.now

-- whether a table comes after another
abbrev pub is_after : TableValue → Bor TableValue → Bool
is_after t u = is_before t u.now

inserted_at : (us : List (Bor TableValue)) (t : Bor TableValue)
    → map pointed (insert us (position_or_len (is_after t.now) us) t) ≡ placed (map pointed us) t.now
inserted_at [] t = refl
inserted_at (u ∷ us) t = elim (cases_Bool (is_before t.now u.now)) [
  | inl e ↦ rw e refl
  | inr e ↦ rw (e, one_and) (ap (λ (ts : List TableValue). u.now ∷ ts) (inserted_at us t))
]

-- a table that is inserted stands at its place
pub inserted : (us : List (Bor TableValue)) (t : Bor TableValue) (i : ℕ)
    → i ≡ unwrap_or (position (is_after t.now) us) (length us)
    → map pointed (insert us i t) ≡ placed (map pointed us) t.now
inserted us t i is = rw (is, place_or_end (is_after t.now) us) (inserted_at us t)

-- ---- one more table

-- the first of a list, and one more
pub take_next : {X : Type 0} (xs : List X) (i : ℕ) (x : X)
    → i < length xs → x ≡ get_or xs i x → take (i + 1) xs ≡ take i xs ++ (x ∷ [])
take_next {X = X} xs i x lt is = take_more xs i x lt ∙ ap (λ (y : X). take i xs ++ (y ∷ [])) (sym is)

abbrev is_child : TableValue → Bool
is_child t = not t.parent

-- one more child table is placed
pub next_table : (ts : List TableValue) (i : ℕ) (t : TableValue)
    → i < length ts → t ≡ get_or ts i t → t.parent ≡ false
    → by_name (filter is_child (take (i + 1) ts)) ≡ placed (by_name (filter is_child (take i ts))) t
next_table ts i t lt is child =
    ap (λ (us : List TableValue). by_name (filter is_child us)) (take_next ts i t lt is)
    ∙ ap by_name (filter-append is_child (take i ts) (t ∷ []))
    ∙ ap (λ (b : Bool). by_name (filter is_child (take i ts) ++ cond (not b) (t ∷ []) [])) child
    ∙ fold_push placed [] (filter is_child (take i ts)) t

-- ---- what holds of all tables holds of those in order

placed_all : (P : TableValue → Type 0) (us : List TableValue) (t : TableValue)
    → P t → All P us → All P (placed us t)
placed_all P [] t here all = All-cons P t [] here all
placed_all P (u ∷ us) t here all = elim (cases_Bool (is_before t u)) [
  | inl e ↦ rw e (All-cons P t (u ∷ us) here all)
  | inr e ↦ rw e (All-cons P u (placed us t) (all 0 u (omega arith)) (placed_all P us t here (All-tail P u us all)))
]

onward_all : (P : TableValue → Type 0) (ts us : List TableValue)
    → All P ts → All P us → All P (fold placed us ts)
onward_all P [] us todo all = all
onward_all P (t ∷ ts) us todo all = onward_all P ts (placed us t)
    (All-tail P t ts todo) (placed_all P us t (todo 0 t (omega arith)) all)

-- what holds of all tables holds of those in order
pub by_name_all : (P : TableValue → Type 0) (test : TableValue → Bool) (ts : List TableValue)
    → All P ts → All P (by_name (filter test ts))
by_name_all P test ts all = onward_all P (filter test ts) [] (All-filter test P ts all) (All-nil P)
