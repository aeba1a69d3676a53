-- A test that holds just where two texts are the same.
use Rattle.std.proofs.Common.{◌≡◌, ℕ, Bool, true, false, List, refl, sym, true≢false}
use Rattle.std.specs.Prelude.{◌↔◌, IsTrue}
use Rattle.std.specs.Str.{bytes_eq}
use Rattle.std.proofs.lemmas.Slice.Eq.{bytes_eq-Decides}

pub same_test : (b : Bool) (xs ys : List ℕ) → (IsTrue b ↔ (xs ≡ ys)) → b ≡ bytes_eq xs ys
same_test true xs ys h = sym ((bytes_eq-Decides xs ys).1 (h.0 refl))
same_test false xs ys h = by (bytes_eq xs ys) refl
  where
    by : (t : Bool) → bytes_eq xs ys ≡ t → false ≡ bytes_eq xs ys
    by true e = absurd (true≢false (sym (h.1 ((bytes_eq-Decides xs ys).0 e))))
    by false e = sym e
