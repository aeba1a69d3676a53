-- Texts as names are compared.
use Rattle.std.proofs.Common.{◌≡◌, ℕ, ◌-◌, ◌<◌, List, [], ◌∷◌, ◌++◌, length, take, None}
use Rattle.std.proofs.Common.{arith, true, false, refl, ap, ap₂, suc, zero, slice_index, lit<}
use lib.Utf8.{encode}
use Rattle.std.specs.Prelude.{◌==◌, cond}
use Rattle.std.specs.Str.Pattern.{FindsCharSuffix}
use Rattle.std.proofs.lemmas.Bool.Decides.{nat_tests}
use Rattle.esc_zone.specs.Fields.{without_dot}

nothing_left : (xs : List ℕ) → length xs ≡ 0 → xs ≡ []
nothing_left [] h = refl
nothing_left (x ∷ xs) h = absurd (omega arith)

ends_at : (text : List ℕ) (b n : ℕ) → length text ≡ suc n → slice_index text n ≡ b
    → text ≡ take n text ++ b ∷ []
ends_at [] b n l e = absurd (omega arith)
ends_at (x ∷ rest) b zero l e = ap₂ (λ (y : ℕ) (ys : List ℕ). y ∷ ys) e (nothing_left rest (omega arith))
ends_at (x ∷ rest) b (suc n) l e = ap (λ (ys : List ℕ). x ∷ ys) (ends_at rest b n (omega arith) e)

-- a text whose last byte is this one
ends_so : (text : List ℕ) (b : ℕ) → 0 < b → slice_index text (length text - 1) ≡ b
    → text ≡ take (length text - 1) text ++ b ∷ []
ends_so [] b h e = absurd (omega arith)
ends_so (x ∷ rest) b h e = ends_at (x ∷ rest) b (length (x ∷ rest) - 1) (omega arith) e

-- a text that no dot ends is left as it is
pub no_dot_left : (text : List ℕ) → FindsCharSuffix 46 text None → text ≡ without_dot text
unfolding encode
no_dot_left text h =
    let n = length text - 1 in
    (elim (slice_index text n == 46)
    as (λ v. (slice_index text n == 46) ≡ v → text ≡ cond v (take n text) text) [
      | true ↦ λ e. (let is : slice_index text n ≡ 46 = grind (arith, nat_tests, e) in
          absurd (h (take n text) (ends_so text 46 (lit< tt) is)))
      | false ↦ λ e. refl
    ]) refl
