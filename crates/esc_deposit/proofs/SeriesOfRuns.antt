-- A registry's objects in runs are a series.
use Rattle.std.proofs.Common.{◌≡◌, ℕ, zero, suc, ◌+◌, ◌<◌, ℤ, List, [], ◌∷◌, ◌++◌, length, get_or, refl, sym, ap}
use Rattle.std.proofs.Common.{◌∙◌, inr, subst, arith, append-nil}
use lib.IntN.{+ℤ_idr}
use Rattle.std.proofs.lemmas.Map.Keys.{IsDistinct-from_sorted}
use Rattle.std.specs.List.{AllPairs, IsDistinct, list_any}
use Rattle.std.specs.Map.{lookup, keys_of}
use Rattle.esc_envelope.specs.declared.place.DepositType.{DepositType}
use Rattle.esc_envelope.specs.declared.place.DepositType.TheVariants.{Diff, Incr, Full}
use Rattle.esc_tables.specs.DepositValue.{DepositValue}
use Rattle.esc_tables.specs.KeyName.{KeyName, key_cmp, key_eq}
use Rattle.esc_apply.specs.ObjectStreams.{Entry, InOrder}
use Rattle.esc_apply.specs.Tables.{deletes_by, deletes_of}
use Rattle.esc_series.specs.Series.{part_type, all_deletes, all_contents, DeletesFirst, IsSeriesOf}
use Rattle.esc_deposit.specs.FullBundle.{counted_kinds, full_of}
use Rattle.esc_deposit.specs.RegistrySeries.{run_objects, part_with, parts_from, registry_series}

none_deleted : (type : DepositType) → deletes_by type [] ≡ []
none_deleted Full = refl
none_deleted Incr = refl
none_deleted Diff = refl

module _ (id : List ℕ) (w : ℤ) (es : List Entry) (of : ℕ) where
  abbrev parts : ℕ → List (List Entry) → List DepositValue
  parts number runs = parts_from id w es of number runs

  -- there is a part for each run
  pub as_many : (number : ℕ) (runs : List (List Entry)) → length (parts number runs) ≡ length runs
  as_many number [] = refl
  as_many number (run ∷ runs) = ap (λ n. suc n) (as_many (suc number) runs)

  -- each part has the type of its number
  typed : (number : ℕ) (runs : List (List Entry)) (k : ℕ) (d : DepositValue) → k < length runs
      → (n : ℕ) → number + k ≡ n → (get_or (parts number runs) k d).header.place.kind ≡ part_type Full n
  typed number [] k d below n is = absurd (omega (arith, below))
  typed number (run ∷ runs) zero d below n is =
      let same : number ≡ n = omega (arith, is) in ap (λ m. part_type Full m) same
  typed number (run ∷ runs) (suc k) d below n is =
      typed (suc number) runs k d (omega (arith, below)) n (omega (arith, is))

  -- no part deletes
  delete_none : (number : ℕ) (runs : List (List Entry)) (k : ℕ) (d : DepositValue) → k < length runs
      → deletes_of (get_or (parts number runs) k d) ≡ []
  delete_none number [] k d below = absurd (omega (arith, below))
  delete_none number (run ∷ runs) zero d below = none_deleted (part_type Full number)
  delete_none number (run ∷ runs) (suc k) d below = delete_none (suc number) runs k d (omega (arith, below))

  no_deletes : (number : ℕ) (runs : List (List Entry)) → all_deletes (parts number runs) ≡ []
  no_deletes number [] = refl
  no_deletes number (run ∷ runs) =
      ap (λ (l : List KeyName). l ++ all_deletes (parts (suc number) runs)) (none_deleted (part_type Full number))
      ∙ no_deletes (suc number) runs

  -- the contents of all parts are the runs
  contents_joined : (number : ℕ) (runs : List (List Entry)) → all_contents (parts number runs) ≡ run_objects runs
  contents_joined number [] = refl
  contents_joined number (run ∷ runs) = ap (λ (l : List Entry). run ++ l) (contents_joined (suc number) runs)

-- ---- the law

pub is_series : (id : List ℕ) (w : ℤ) (runs : List (List Entry)) → 0 < length runs → InOrder (run_objects runs)
    → IsSeriesOf (registry_series id w runs) (full_of id w (run_objects runs))
is_series id w runs some order =
    let es = run_objects runs in
    let of = length runs in
    let all = contents_joined id w es of 0 runs in
    record {
      types = record {
        some = subst (λ n. 0 < n) (sym (as_many id w es of 0 runs)) some;
        each = λ k d below. typed id w es of 0 runs k d
            (subst (λ n. k < n) (as_many id w es of 0 runs) below) k (omega arith);
      };
      deletes = λ q. ap (λ (l : List KeyName). list_any (key_eq q) l) (no_deletes id w es of 0 runs);
      contents = record {
        once = subst (λ (l : List Entry). IsDistinct key_eq (keys_of l)) (sym all)
            (IsDistinct-from_sorted key_cmp (keys_of es) order);
        each = λ q. ap (λ (l : List Entry). lookup (key_eq q) l) all;
      };
      deletes_first = λ i j d before below. inr (delete_none id w es of 0 runs j d
          (subst (λ n. j < n) (as_many id w es of 0 runs) below));
    }

-- one part of one is the Full
pub one_part : (id : List ℕ) (w : ℤ) (es : List Entry)
    → part_with id w 1 0 (counted_kinds es) es ≡ full_of id w es
one_part id w es = ap (λ (m : ℤ). full_of id m es) (+ℤ_idr w)

pub one_run : (id : List ℕ) (w : ℤ) (es : List Entry) → registry_series id w (es ∷ []) ≡ full_of id w es ∷ []
one_run id w es =
    ap (λ (l : List Entry). parts_from id w l 1 0 (es ∷ [])) (append-nil es)
    ∙ ap (λ (d : DepositValue). d ∷ []) (one_part id w es)
