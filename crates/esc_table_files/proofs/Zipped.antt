-- What holds of two lists place by place.
use Rattle.std.proofs.Common.{◌≡◌, ℕ, ◌+◌, ◌<◌, ◌≤◌, List, [], ◌∷◌, ◌++◌, length}
use Rattle.std.proofs.Common.{get_or, take, drop, set, sym, ap, ◌∙◌, subst, append_assoc, append-nil}
use Rattle.std.proofs.Common.{arith}
use Rattle.std.specs.List.{AllZip}
use Rattle.std.proofs.lemmas.List.{take_more, drop_more, take_all, drop_all, set_at, get_or_at, length-take}
use Rattle.std.proofs.lemmas.Slice.Zip.{AllZip-long}

module _ {A : Type 0} where
  -- a weaker relation
  pub zip_weaker : (R S : A → A → Type 0)
      → ((x y : A) → R x y → S x y) → (xs ys : List A) → AllZip R xs ys → AllZip S xs ys
  zip_weaker R S weaker [] [] all = tt
  zip_weaker R S weaker [] (y ∷ ys) all = absurd all
  zip_weaker R S weaker (x ∷ xs) [] all = absurd all
  zip_weaker R S weaker (x ∷ xs) (y ∷ ys) all = (weaker x y all.0, zip_weaker R S weaker xs ys all.1)

  -- one relation after another
  pub zip_then : (R S T : A → A → Type 0) → ((x y z : A) → R x y → S y z → T x z)
      → (xs ys zs : List A) → AllZip R xs ys → AllZip S ys zs → AllZip T xs zs
  zip_then R S T next [] [] [] first then = tt
  zip_then R S T next [] [] (z ∷ zs) first then = absurd then
  zip_then R S T next [] (y ∷ ys) zs first then = absurd first
  zip_then R S T next (x ∷ xs) [] zs first then = absurd first
  zip_then R S T next (x ∷ xs) (y ∷ ys) [] first then = absurd then
  zip_then R S T next (x ∷ xs) (y ∷ ys) (z ∷ zs) first then =
      (next x y z first.0 then.0, zip_then R S T next xs ys zs first.1 then.1)

  -- one more at the end
  zip_push : (R : A → A → Type 0) (xs ys : List A) (x y : A)
      → AllZip R xs ys → R x y → AllZip R (xs ++ x ∷ []) (ys ++ y ∷ [])
  zip_push R [] [] x y all one = (one, tt)
  zip_push R [] (b ∷ ys) x y all one = absurd all
  zip_push R (a ∷ xs) [] x y all one = absurd all
  zip_push R (a ∷ xs) (b ∷ ys) x y all one = (all.0, zip_push R xs ys x y all.1 one)

  -- a loop that changes one element after another: those so far are changed, the others as they were
  abbrev pub SoFar : (A → A → Type 0) → List A → ℕ → List A → Type 0
  SoFar R xs i ys = (front : List A) × (ys ≡ front ++ drop i xs) × AllZip R (take i xs) front

  pub one_more : (R : A → A → Type 0) (xs ys : List A) (i : ℕ) (x y : A)
      → i < length xs → SoFar R xs i ys → x ≡ get_or ys i x → R x y
      → SoFar R xs (i + 1) (set ys i y)
  one_more R xs ys i x y lt so_far is one =
      let front = so_far.0 in
      let long : length front ≡ i = AllZip-long R (take i xs) front so_far.2 ∙ length_taken xs i lt in
      let parts : ys ≡ front ++ get_or xs i x ∷ drop (i + 1) xs =
      so_far.1 ∙ ap (λ (l : List A). front ++ l) (drop_more xs i x lt) in
      let read : x ≡ get_or xs i x =
      is ∙ ap (λ (l : List A). get_or l i x) parts ∙ get_or_at front _ _ x i long in (
        front ++ y ∷ [],
        ap (λ (l : List A). set l i y) parts ∙ set_at front _ _ y i long ∙ sym (append_assoc front (y ∷ []) _),
        subst (λ (l : List A). AllZip R l (front ++ y ∷ [])) (sym (take_more xs i x lt))
            (zip_push R (take i xs) front (get_or xs i x) y so_far.2 (subst (λ (z : A). R z y) read one)),
      )
    where
      length_taken : (zs : List A) (j : ℕ) → j < length zs → length (take j zs) ≡ j
      length_taken zs j within = omega (arith, length-take j zs)

  pub all_done : (R : A → A → Type 0) (xs ys : List A) (i : ℕ)
      → length xs ≤ i → SoFar R xs i ys → AllZip R xs ys
  all_done R xs ys i end so_far =
      let whole : ys ≡ so_far.0 =
      so_far.1 ∙ ap (λ (l : List A). so_far.0 ++ l) (drop_all i xs end) ∙ append-nil so_far.0 in
      subst (λ (l : List A). AllZip R l ys)
      (take_all i xs end) (subst (λ (l : List A). AllZip R (take i xs) l) (sym whole) so_far.2)
