-- Rows of an answer, read one by one.
use Rattle.esc_sql.proofs.Common.{◌≡◌, ◌+◌, ◌<◌, ℕ, List, [], ◌∷◌, ◌++◌, map, take, length}
use Rattle.esc_sql.proofs.Common.{get_or, refl, sym, ap, ap₂, subst, ◌∙◌, Row, number_in, first_of}
use Rattle.esc_sql.proofs.Common.{number_value, AreRead, map-map, zero, suc, arith}
use Rattle.sqlite_keyed.proofs.ListLemmas.{map_back}
use Rattle.std.proofs.Common.{add-one}

-- a further row that was read joins those that were read
pub one_more : {V : Type 0} (IsRead : Row → V → Type 0) (rows : List Row) (vs : List V) (v : V)
    (k : ℕ) (d : Row) → k < length rows → AreRead IsRead (take k rows) vs → IsRead (get_or rows k d) v
    → AreRead IsRead (take (k + 1) rows) (vs ++ v ∷ [])
one_more IsRead (r ∷ rows) [] v zero d low all last = (last, tt)
one_more IsRead (r ∷ rows) (w ∷ vs) v (suc k) d low all last =
    rw add-one (all.0, rw add-one at (one_more IsRead rows vs v k d (omega arith) all.1 last))
one_more IsRead [] vs v k d low all last = absurd (omega arith)
one_more IsRead _ _ v _ d low all last = absurd all

-- rows that show typed rows are read as those
module _ {R V : Type 0} (shown : R → Row) (view : V → R) where
  abbrev pub Shows : Row → V → Type 0
  Shows row v = (r : R) → row ≡ shown r → view v ≡ r

  read_back : (rs : List R) (vs : List V) → AreRead Shows (map shown rs) vs → map view vs ≡ rs
  read_back [] [] all = refl
  read_back (r ∷ rs) (v ∷ vs) all = ap₂ ◌∷◌ (all.0 r refl) (read_back rs vs all.1)
  read_back _ _ all = absurd all

  pub reads_back : (rs : List R) (rows : List Row) (vs : List V)
      → AreRead Shows rows vs → rows ≡ map shown rs → map view vs ≡ rs
  reads_back rs rows vs all is = read_back rs vs (subst (λ l. AreRead Shows l vs) is all)

  -- of rows that show what others stand for
  pub reads_each : {T : Type 0} (entry : T → R) (ts : List T) (rows : List Row) (vs : List V)
      → AreRead Shows rows vs → rows ≡ map (λ t. shown (entry t)) ts → map view vs ≡ map entry ts
  reads_each entry ts rows vs all is = reads_back (map entry ts) rows vs all (is ∙ sym (map-map shown entry ts))

-- ---- rows of one number each

-- rows that were read as numbers have these in their first column
pub reads_numbers : (rows : List Row) (ns : List ℕ)
    → AreRead (λ row n. number_value n ≡ first_of row) rows ns → map number_value ns ≡ map first_of rows
reads_numbers [] [] all = refl
reads_numbers (row ∷ rows) (n ∷ ns) all = ap₂ ◌∷◌ all.0 (reads_numbers rows ns all.1)
reads_numbers _ _ all = absurd all

-- as the numbers of typed rows
pub numbers_are : {X : Type 0} (shown : X → Row) (xs : List X) (rows : List Row) (ns : List ℕ)
    → AreRead (λ row n. number_value n ≡ first_of row) rows ns
    → rows ≡ map shown xs → ns ≡ map (λ x. number_in (first_of (shown x))) xs
numbers_are shown xs rows ns all is =
    sym (map_back number_value number_in (λ n. refl) ns) ∙ ap (map number_in) (reads_numbers rows ns all
    ∙ ap (map first_of) is ∙ map-map first_of shown xs) ∙ map-map number_in _ xs
