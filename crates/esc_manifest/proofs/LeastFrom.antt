-- The least of faults, found one number after another.
use Rattle.std.proofs.Common.{◌≡◌, ◌⊎◌, ℕ, zero, suc, ◌+◌, ◌<◌, ◌≤◌, Bool, true, false}
use Rattle.std.proofs.Common.{List, length, get_or, Option, Some, None, refl, sym, ap, subst, ◌∙◌}
use Rattle.std.proofs.Common.{arith, inl, inr}
use Rattle.std.specs.Prelude.{position, if◌then◌else◌}
use Rattle.std.proofs.lemmas.Bool.{cases_lt}
use Rattle.std.proofs.lemmas.List.Quantifiers.{position-Some}
use Rattle.std.proofs.lemmas.Option.{same_Some}
use Rattle.esc_manifest.specs.declared.refusal.ManifestRefusal.{ManifestRefusal}
use Rattle.esc_manifest.specs.Codes.{manifest_number}
use Rattle.esc_manifest.specs.RefusalLaws.{one_manifest_refusal}
use Rattle.esc_manifest.specs.RowFaults.{or_else, least, fault_or}
use Rattle.esc_manifest.specs.Manifest.{index_or}
use Rattle.esc_manifest.specs.LeastFault.{IsLeastOf}
use Rattle.esc_manifest.proofs.Least.{none_holds}
use Rattle.esc_manifest.proofs.Positions.{fails_at}

-- the first index below n at which a test holds, if there is one
pub record IsFirst (test : ℕ → Bool) (n : ℕ) (o : Option ℕ) : Type 0 where
  pub none : o ≡ None → (k : ℕ) → k < n → test k ≡ false
  pub some : (r : ℕ) → o ≡ Some r → (r < n) × (test r ≡ true) × ((k : ℕ) → k < r → test k ≡ false)

-- the first item of a list that passes a test
pub first_of_list : {X : Type 0} (test : X → Bool) (xs : List X) (d : X)
    → IsFirst (λ r. test (get_or xs r d)) (length xs) (position test xs)
first_of_list test xs d = record { none = λ e. fails_at test xs d e; some = λ r e. position-Some test xs r d e }

-- the least of n numbers is that of fewer, or the last
least_before : (o : Option ℕ) (holds : Bool) (n r : ℕ) → or_else o (if holds then Some n else None)
    ≡ Some r → (o ≡ Some r) ⊎ ((o ≡ None) × (holds ≡ true) × (n ≡ r))
least_before None true n r e = inr (refl, refl, cc)
least_before None false n r e = absurd cc
least_before (Some k) holds n r e = inl e

least_is : (test : ℕ → Bool) (n r : ℕ)
    → least test n ≡ Some r → (r < n) × (test r ≡ true) × ((k : ℕ) → k < r → test k ≡ false)
unfolding least
least_is test zero r e = absurd cc
least_is test (suc n) r e = elim (least_before (least test n) (test n) n r e) [
  | inl before ↦ let (lt, holds, free) = least_is test n r before in (omega arith, holds, free)
  | inr (none, holds, last) ↦ (
    omega arith,
    subst (λ (k : ℕ). test k ≡ true) last holds,
    λ k lt. none_holds test n none k (omega arith),
  )
]

-- the least number that passes a test
pub first_of_numbers : (test : ℕ → Bool) (n : ℕ) → IsFirst test n (least test n)
first_of_numbers test n = record { none = λ e. none_holds test n e; some = λ r e. least_is test n r e }

-- of the faults from a number on, none has a lesser number, and none the same number at a lesser row
abbrev pub IsLeastAmong : (ManifestRefusal → ℕ → Type 0) → ℕ → ManifestRefusal → ℕ → Type 0
IsLeastAmong stands low code row = (k : ManifestRefusal) (s : ℕ) → low ≤ manifest_number k
    → stands k s → (manifest_number code < manifest_number k) ⊎ ((code ≡ k) × (row ≤ s))

-- of the faults from a number on, the least, if there is one
pub record LeastFrom (stands : ManifestRefusal → ℕ → Type 0)
    (low : ℕ) (o : Option (ManifestRefusal × ℕ)) : Type 0 where
  pub none : o ≡ None → (k : ManifestRefusal) (s : ℕ) → low ≤ manifest_number k → stands k s → ⊥
  pub some : (code : ManifestRefusal) (row : ℕ)
      → o ≡ Some (code, row) → stands code row × IsLeastAmong stands low code row

-- the row of a fault, if one has it, or else the next number
pub record AtLeastRow (stands : ManifestRefusal → ℕ → Type 0)
    (code : ManifestRefusal) (o : Option ℕ) : Type 0 where
  pub none : o ≡ None → (s : ℕ) → stands code s → ⊥
  pub some : (row : ℕ) → o ≡ Some row → stands code row × ((s : ℕ) → stands code s → row ≤ s)

-- a fault that was found, with none before it
pub found : (stands : ManifestRefusal → ℕ → Type 0) (low : ℕ) (code : ManifestRefusal) (row : ℕ)
    → stands code row → IsLeastAmong stands low code row → LeastFrom stands low (Some (code, row))
found stands low code row here all = record {
  none = λ e. absurd cc;
  some = λ c r e. subst (λ (p : ManifestRefusal × ℕ). stands p.0 p.1 × IsLeastAmong stands low p.0 p.1)
      (same_Some (code, row) (c, r) e) (here, all);
}

-- one number, and those from the next one on
pub step : (stands : ManifestRefusal → ℕ → Type 0) (code : ManifestRefusal)
    (high : ℕ) (o : Option ℕ) (next : Option (ManifestRefusal × ℕ)) → manifest_number code < high
    → ((k : ManifestRefusal) (s : ℕ)
    → manifest_number code < manifest_number k → manifest_number k < high → stands k s → ⊥)
    → AtLeastRow stands code o
    → LeastFrom stands high next → LeastFrom stands (manifest_number code) (index_or code o next)
step stands code high None next lt gap here later = record {
  none = λ e k s le there. elim (cases_lt (manifest_number k) high) [
    | inl below ↦ none_below k s le below there
    | inr above ↦ later.none e k s above there
  ];
  some = λ c r e. let l = later.some c r e in (
    l.0,
    λ k s le there. elim (cases_lt (manifest_number k) high) [
      | inl below ↦ absurd (none_below k s le below there)
      | inr above ↦ l.1 k s above there
    ],
  );
}
  where
    none_below : (k : ManifestRefusal) (s : ℕ)
        → manifest_number code ≤ manifest_number k → manifest_number k < high → stands k s → ⊥
    none_below k s le below there = elim (cases_lt (manifest_number code) (manifest_number k)) [
      | inl over ↦ gap k s over below there
      | inr at ↦ let same : k ≡ code = one_manifest_refusal k code (omega arith) in
          here.none refl s (subst (λ (x : ManifestRefusal). stands x s) same there)
    ]
step stands code high (Some row) next lt gap here later =
    let (at, first) = here.some row refl in
    found stands (manifest_number code)
    code row at (λ k s le there. elim (cases_lt (manifest_number code) (manifest_number k)) [
      | inl over ↦ inl over
      | inr even ↦ let same : k ≡ code = one_manifest_refusal k code (omega arith) in
          inr (sym same, first s (subst (λ (x : ManifestRefusal). stands x s) same there))
    ])

-- faults from a lesser number on, where none is between
pub lower : (stands : ManifestRefusal → ℕ → Type 0) (low high : ℕ) (o : Option (ManifestRefusal × ℕ))
    → ((k : ManifestRefusal) (s : ℕ)
    → low ≤ manifest_number k → manifest_number k < high → stands k s → ⊥)
    → LeastFrom stands high o → LeastFrom stands low o
lower stands low high o gap later = record {
  none = λ e k s le there. elim (cases_lt (manifest_number k) high)
      [ inl below ↦ gap k s le below there | inr above ↦ later.none e k s above there ];
  some = λ c r e. let l = later.some c r e in (
    l.0,
    λ k s le there. elim (cases_lt (manifest_number k)
        high) [ inl below ↦ absurd (gap k s le below there) | inr above ↦ l.1 k s above there ],
  );
}

-- ---- faults at rows that count from 1

-- the row below the heading
abbrev pub up : Option ℕ → Option ℕ
up None = None
up (Some r) = Some (r + 1)

-- a fault at an index is one at its row
pub fault_or_is : (code : ManifestRefusal) (o : Option ℕ) (next : Option (ManifestRefusal × ℕ))
    → fault_or code o next ≡ index_or code (up o) next
fault_or_is code None next = refl
fault_or_is code (Some r) next = refl

-- a fault above the rows, or at one of n rows
abbrev pub StandsBy : (ManifestRefusal → ℕ → Type 0)
    → (ManifestRefusal → ℕ → Bool) → ℕ → ManifestRefusal → ℕ → Type 0
StandsBy above has n code row = above code row ⊎ ((r : ℕ) × (r < n) × (row ≡ suc r) × (has code r ≡ true))

-- the first row that has a fault
pub at_row : (above : ManifestRefusal → ℕ → Type 0) (has : ManifestRefusal → ℕ → Bool)
    (n : ℕ) (code : ManifestRefusal) (o : Option ℕ) → ((s : ℕ) → above code s → ⊥)
    → IsFirst (has code) n o → AtLeastRow (StandsBy above has n) code (up o)
at_row above has n code None never first = record {
  none = λ e s. no_row s;
  some = λ row e. absurd cc;
}
  where
    no_row : (s : ℕ) → StandsBy above has n code s → ⊥
    no_row s (inl there) = never s there
    no_row s (inr (r, lt, is, holds)) = let fails = first.none refl r lt in absurd cc
at_row above has n code (Some r) never first = record {
  none = λ e. absurd cc;
  some = λ row e. let same : r + 1 ≡ row = number (r + 1) row e in subst (λ (x : ℕ). StandsBy
      above has n code x × ((s : ℕ) → StandsBy above has n code s → x ≤ s)) same (here, least_row);
}
  where
    number : (a b : ℕ) → ◌≡◌ {A = Option ℕ} (Some a) (Some b) → a ≡ b
    number a b e = cc

    here : StandsBy above has n code (r + 1)
    here = let f = first.some r refl in inr (r, f.0, omega arith, f.1)

    least_row : (s : ℕ) → StandsBy above has n code s → r + 1 ≤ s
    least_row s (inl there) = absurd (never s there)
    least_row s (inr (q, lt, is, holds)) = elim (cases_lt q r) [
      | inl before ↦ let fails = (first.some r refl).2 q before in absurd cc
      | inr after ↦ omega (arith, is)
    ]

-- ---- the least of all

-- the fault that is returned is the least
pub least_of : (stands : ManifestRefusal → ℕ → Type 0) (o : Option (ManifestRefusal × ℕ)) → LeastFrom
    stands 0 o → (code : ManifestRefusal) (row : ℕ) → o ≡ Some (code, row) → IsLeastOf stands code row
least_of stands o all code row e = let l = all.some code row e in (l.0, λ k s there. l.1 k s (omega arith) there)

one_least : (a c : ManifestRefusal) (b d : ℕ) → (manifest_number a < manifest_number c) ⊎ ((a ≡ c)
    × (b ≤ d)) → (manifest_number c < manifest_number a) ⊎ ((c ≡ a) × (d ≤ b)) → (a ≡ c) × (b ≡ d)
one_least a c b d (inl lt) (inl gt) = absurd (omega arith)
one_least a c b d (inl lt) (inr (same, le)) = absurd (omega (arith, lt, ap manifest_number same))
one_least a c b d (inr (same, le)) (inl gt) = absurd (omega (arith, gt, ap manifest_number same))
one_least a c b d (inr (same, le)) (inr (back, ge)) = (same, omega arith)

-- the least fault is returned
pub is_least : (stands : ManifestRefusal → ℕ → Type 0) (o : Option (ManifestRefusal × ℕ)) → LeastFrom
    stands 0 o → (code : ManifestRefusal) (row : ℕ) → IsLeastOf stands code row → o ≡ Some (code, row)
is_least stands None all code row least = absurd (all.none refl code row (omega arith) least.0)
is_least stands (Some f) all code row least =
    let l = least_of stands (Some f) all f.0 f.1 refl in
    let same = one_least f.0 code f.1 row (l.1 code row least.0) (least.1 f.0 f.1 l.0) in
    ap (λ (c : ManifestRefusal). Some (c, f.1)) same.0 ∙ ap (λ (r : ℕ). Some (code, r)) same.1
