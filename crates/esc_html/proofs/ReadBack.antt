-- What is escaped is read as what it was.
use Rattle.std.proofs.Common.{◌≡◌, ℕ, List, [], ◌∷◌, ◌++◌, Option, Some, None, true, false, cond}
use Rattle.std.proofs.Common.{refl, sym, ap, subst, ◌∙◌, ◌⊎◌, inl, inr}
use Rattle.std.specs.Prelude.{◌==◌}
use Rattle.std.proofs.lemmas.Bool.{eqb-true}
use Rattle.esc_html.specs.Escape.{spelled, escaped, is_markup_sign, before, read_on, read_text}

-- a byte is another one, or the test says that it isn't
either : (b c : ℕ) → (b ≡ c) ⊎ ((b == c) ≡ false)
either b c = elim (b == c) as (λ v. (b == c) ≡ v → (b ≡ c) ⊎ ((b == c) ≡ false)) [
  | true ↦ λ e. inl (eqb-true b c e)
  | false ↦ λ e. inr e
] refl

-- what stands for a byte is read as that byte
Reads : List ℕ → List ℕ → ℕ → Type 0
Reads rest text b = read_on (spelled b ++ rest) None ≡ Some (b ∷ text)

-- a sign is read of its reference
from_sign : (rest text : List ℕ) (b c : ℕ) → b ≡ c → Reads rest text c → Reads rest text b
from_sign rest text b c e known = subst (Reads rest text) (sym e) known

-- a byte that is no sign stands as it is
module _ (b : ℕ) (a : (b == 38) ≡ false) (l : (b == 60) ≡ false)
    (g : (b == 62) ≡ false) (q : (b == 34) ≡ false) (s : (b == 39) ≡ false) where
  stands : spelled b ≡ b ∷ []
  stands = rw (a, l, g, q, s) refl

  no_sign : is_markup_sign b ≡ false
  no_sign = rw (l, g, q, s) refl

  read_next : (rest : List ℕ) → read_on (b ∷ rest) None ≡ before (Some b) (read_on rest None)
  read_next rest =
      let next : Option (List ℕ) = before (Some b) (read_on rest None) in
      ap (λ v. cond v (read_on rest (Some [])) (cond (is_markup_sign b) None next)) a
      ∙ ap (λ v. cond v None next) no_sign

  as_it_is : (rest text : List ℕ) → read_on rest None ≡ Some text → Reads rest text b
  unfolding Reads
  as_it_is rest text known =
      ap (λ (first : List ℕ). read_on (first ++ rest) None) stands ∙ read_next rest ∙ ap (before (Some b)) known

one_read : (rest text : List ℕ) (b : ℕ) → read_on rest None ≡ Some text → Reads rest text b
unfolding Reads
one_read rest text b known = elim (either b 38) [
  | inl e ↦ from_sign rest text b 38 e (ap (before (Some 38)) known)
  | inr a ↦ elim (either b 60) [
    | inl e ↦ from_sign rest text b 60 e (ap (before (Some 60)) known)
    | inr l ↦ elim (either b 62) [
      | inl e ↦ from_sign rest text b 62 e (ap (before (Some 62)) known)
      | inr g ↦ elim (either b 34) [
        | inl e ↦ from_sign rest text b 34 e (ap (before (Some 34)) known)
        | inr q ↦ elim (either b 39) [
          | inl e ↦ from_sign rest text b 39 e (ap (before (Some 39)) known)
          | inr s ↦ as_it_is b a l g q s rest text known
        ]
      ]
    ]
  ]
]

-- an escaped text is read back as it was
pub read_back : (text : List ℕ) → read_text (escaped text) ≡ Some text
unfolding Reads
read_back [] = refl
read_back (b ∷ rest) = one_read (escaped rest) rest b (read_back rest)
