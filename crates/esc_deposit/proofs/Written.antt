-- What was written of a series so far.
use Rattle.std.proofs.Common.{◌≡◌, ℕ, zero, suc, ◌+◌, ◌<◌, ℤ, false, cond, ◌==◌, List, [], ◌∷◌, ◌++◌}
use Rattle.std.proofs.Common.{length, map, Ok, Result, refl, sym, ap, subst, ◌∙◌, arith, append_assoc, append-nil}
use Rattle.std.proofs.Common.{length-append, ne_eqb}
use Rattle.std.proofs.lemmas.List.{map-append}
use Rattle.esc_bundle.specs.declared.refusal.Refusal.{Refusal}
use Rattle.esc_envelope.specs.declared.kind.Kind.{Kind}
use Rattle.esc_tables.specs.DepositValue.{DepositValue}
use Rattle.esc_tables.specs.Reading.{reading}
use Rattle.esc_apply.specs.ObjectStreams.{Entry}
use Rattle.esc_deposit.specs.FullBundle.{counted_kinds}
use Rattle.esc_deposit.specs.RegistrySeries.{run_objects, part_counts, part_with, parts_from, registry_series}
use Rattle.esc_deposit.specs.RegistrySeries.{TakesAll, AreSeriesOf}

-- ---- one more run

joined_more : (runs : List (List Entry)) (run : List Entry) → run_objects (runs ++ run ∷ []) ≡ run_objects runs ++ run
joined_more [] run = append-nil run
joined_more (r ∷ runs) run =
    ap (λ (l : List Entry). r ++ l) (joined_more runs run) ∙ sym (append_assoc r (run_objects runs) run)

module _ (id : List ℕ) (w : ℤ) (of : ℕ) where
  -- the part with this number of the objects es
  abbrev part : List Entry → ℕ → List Entry → DepositValue
  part es number run = part_with id w of number (part_counts es of number) run

  -- parts before the last one declare nothing, whatever the whole is
  parts_alike : (es fs : List Entry) (number : ℕ) (runs : List (List Entry)) → number + length runs < of
      → parts_from id w es of number runs ≡ parts_from id w fs of number runs
  parts_alike es fs number [] few = refl
  parts_alike es fs number (run ∷ runs) few =
      let other : (suc number == of) ≡ false = ne_eqb (suc number) of (omega (arith, few)) in
      ap (λ b. part_with id w of number (cond b (counted_kinds es) []) run ∷ parts_from id w es of (suc number) runs)
      other
      ∙ ap (λ (l : List DepositValue). part_with id w of number [] run ∷ l)
      (parts_alike es fs (suc number) runs (omega (arith, few)))
      ∙ sym (ap (λ b. part_with id w of number (cond b (counted_kinds fs) []) run
      ∷ parts_from id w fs of (suc number) runs) other)

  parts_more : (es : List Entry) (number : ℕ) (runs : List (List Entry)) (run : List Entry) (n : ℕ)
      → number + length runs ≡ n
      → parts_from id w es of number (runs ++ run ∷ []) ≡ parts_from id w es of number runs ++ part es n run ∷ []
  parts_more es number [] run n is =
      let same : number ≡ n = omega (arith, is) in
      ap (λ m. part es m run ∷ []) same
  parts_more es number (r ∷ runs) run n is =
      ap (λ (l : List DepositValue). part es number r ∷ l) (parts_more es (suc number) runs run n (omega (arith, is)))

takes_more : {S : Type 0} (Takes : S → List ℕ → S → Type 0) (a b c : S) (bodies : List (List ℕ)) (body : List ℕ)
    → TakesAll Takes a bodies b → Takes b body c → TakesAll Takes a (bodies ++ body ∷ []) c
takes_more Takes a b c [] body all one = (c, subst (λ s. Takes s body c) (sym all) one, refl)
takes_more Takes a b c (x ∷ bodies) body all one = (all.0, all.1, takes_more Takes all.0 b c bodies body all.2 one)

-- ---- the loop

-- so many parts are written, of the objects before those that are left; these are the numbers of them
pub record IsSoFar {S : Type 0} (Takes : S → List ℕ → S → Type 0) (id : List ℕ) (w : ℤ) (of number : ℕ)
    (counts : List (Kind × ℕ)) (first now : S) (es left : List Entry) : Type 0 where
  pub runs : List (List Entry)
  pub bodies : List (List ℕ)
  pub many : length runs ≡ number
  pub whole : es ≡ run_objects runs ++ left
  pub counted : counts ≡ counted_kinds (run_objects runs)
  pub taken : TakesAll Takes first bodies now
  pub read : map reading bodies ≡ map Ok (parts_from id w (run_objects runs) of 0 runs)

-- a part as it is read
abbrev Read : Type 0
Read = Result DepositValue Refusal

module _ {S : Type 0} (Takes : S → List ℕ → S → Type 0) (id : List ℕ) (w : ℤ) (of : ℕ) where
  pub none_so_far : (counts : List (Kind × ℕ)) (first : S) (es : List Entry) → counts ≡ counted_kinds []
      → IsSoFar Takes id w of 0 counts first first es es
  none_so_far counts first es is = record {
    runs = [];
    bodies = [];
    many = refl;
    whole = refl;
    counted = is;
    taken = refl;
    read = refl;
  }

  pub one_so_far : (number : ℕ) (counts more : List (Kind × ℕ)) (first now next : S) (es left rest run : List Entry)
      (body : List ℕ) → number < of → (far : IsSoFar Takes id w of number counts first now es left)
      → left ≡ run ++ rest
      → ((fs : List Entry) → counts ≡ counted_kinds fs → more ≡ counted_kinds (fs ++ run))
      → Takes now body next
      → reading body ≡ Ok (part_with id w of number (cond (suc number == of) more []) run)
      → IsSoFar Takes id w of (number + 1) more first next es rest
  one_so_far number counts more first now next es left rest run body below far is counted take reads =
      let before = run_objects far.runs in
      let after = run_objects (far.runs ++ run ∷ []) in
      let joins : after ≡ before ++ run = joined_more far.runs run in
      let counts_all : more ≡ counted_kinds after =
      counted before far.counted ∙ ap (λ (l : List Entry). counted_kinds l) (sym joins) in
      record {
        runs = far.runs ++ run ∷ [];
        bodies = far.bodies ++ body ∷ [];
        many = length-append far.runs (run ∷ []) ∙ ap (λ n. n + 1) far.many;
        whole = far.whole ∙ ap (λ (l : List Entry). before ++ l) is ∙ sym (append_assoc before run rest)
            ∙ ap (λ (l : List Entry). l ++ rest) (sym joins);
        counted = counts_all;
        taken = takes_more Takes first now next far.bodies body far.taken take;
        read = map-append reading far.bodies (body ∷ [])
            ∙ ap (λ (l : List Read). l ++ reading body ∷ []) (far.read
            ∙ ap (λ (l : List DepositValue). map Ok l) (parts_alike id w of before after 0 far.runs
            (omega (arith, below, far.many))))
            ∙ ap (λ (r : Read). map Ok (parts_from id w after of 0 far.runs) ++ r ∷ []) (reads
            ∙ ap (λ (cs : List (Kind × ℕ)). Ok (part_with id w of number (cond (suc number == of) cs []) run))
            counts_all)
            ∙ sym (map-append Ok (parts_from id w after of 0 far.runs) (part id w of after number run ∷ []))
            ∙ ap (λ (l : List DepositValue). map Ok l) (sym (parts_more id w of after 0 far.runs run number
            (omega (arith, far.many))));
      }

  pub all_so_far : (counts : List (Kind × ℕ)) (first now : S) (es : List Entry) → 0 < of
      → IsSoFar Takes id w of of counts first now es []
      → (bodies : List (List ℕ)) × TakesAll Takes first bodies now × AreSeriesOf id w es bodies
  all_so_far counts first now es some far = (
    far.bodies,
    far.taken,
    record {
      runs = far.runs;
      some = subst (λ n. 0 < n) (sym far.many) some;
      whole = sym (far.whole ∙ append-nil (run_objects far.runs));
      read = far.read ∙ ap (λ n. map Ok (parts_from id w (run_objects far.runs) n 0 far.runs)) (sym far.many);
    },
  )
