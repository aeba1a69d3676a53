-- Lists of things, read one after another.
use Rattle.std.proofs.Common.{◌≡◌, ℕ, ◌+◌, ◌-◌, ◌<◌, ◌≤◌, suc, List, [], ◌∷◌}
use Rattle.std.proofs.Common.{◌++◌, Option, None, Some, option_map, refl, sym, ap, ◌∙◌, arith}
use Rattle.std.proofs.Common.{append_assoc}
use Rattle.esc_envelope.specs.Sequences.{◌>>=◌}
use Rattle.esc_record.specs.Reading.{many}

-- what was read is before what is read next
abbrev pub behind_done : {A : Type 0} → List A → List A × List ℕ → List A × List ℕ
behind_done done p = (done ++ p.0, p.1)

-- of n things, i were read, and the rest is the reading of those that are left
pub record Reads {A : Type 0} (one : List ℕ → Option (A × List ℕ))
    (n : ℕ) (bytes : List ℕ) (i : ℕ) (done : List A) (rest : List ℕ) : Type 0 where
  pub within : i ≤ n
  pub rest_is : many one n bytes ≡ option_map (behind_done done) (many one (n - i) rest)

-- a thing that is not read ends the list
pub no_more : {A : Type 0} (one : List ℕ → Option (A × List ℕ))
    (n : ℕ) (bytes : List ℕ) (i : ℕ) (done : List A) (rest : List ℕ)
    → Reads one n bytes i done rest → i < n → one rest ≡ None → None ≡ many one n bytes
no_more one n bytes i done rest so_far below none =
    let e : n - i ≡ suc (n - (i + 1)) = omega (arith, so_far.within) in
    sym (so_far.rest_is ∙ rw (e, none) refl)

abbrev with_one : {A : Type 0} → A → Option (List A × List ℕ) → Option (List A × List ℕ)
with_one x o = o >>= (λ xs. Some (x ∷ xs.0, xs.1))

many_more : {A : Type 0} (one : List ℕ → Option (A × List ℕ)) (m : ℕ) (rest behind : List ℕ) (x : A)
    → one rest ≡ Some (x, behind) → many one (suc m) rest ≡ with_one x (many one m behind)
many_more one m rest behind x some = rw some refl

joined : {A : Type 0} (done : List A) (x : A) (o : Option (List A × List ℕ))
    → option_map (behind_done done) (with_one x o) ≡ option_map (behind_done (done ++ (x ∷ []))) o
joined done x None = refl
joined {A} done x (Some p) = let same : done ++ (x ∷ p.0) ≡ (done ++ (x ∷ [])) ++ p.0 =
    sym (append_assoc done (x ∷ []) p.0) in rw same refl

-- one more thing is read
pub one_more : {A : Type 0} (one : List ℕ → Option (A × List ℕ))
    (n : ℕ) (bytes : List ℕ) (i : ℕ) (done : List A) (rest : List ℕ) (x : A) (behind : List ℕ)
    → Reads one n bytes i done rest
    → i < n → one rest ≡ Some (x, behind) → Reads one n bytes (i + 1) (done ++ (x ∷ [])) behind
one_more one n bytes i done rest x behind so_far below some =
    let e : n - i ≡ suc (n - (i + 1)) = omega (arith, so_far.within) in
    record {
      within = omega arith;
      rest_is = so_far.rest_is ∙ (ap (λ m. option_map (behind_done done) (many one m rest)) e
          ∙ (ap (option_map (behind_done done)) (many_more one (n - (i + 1)) rest behind x some)
          ∙ joined done x (many one (n - (i + 1)) behind)));
    }
