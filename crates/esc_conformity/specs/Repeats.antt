-- Values that come one after another, and of which it is kept whether they came, and came again. The
-- crate's own functions say this to one another; `Flaws` alone says what is found.
use Rattle.std.specs.Prelude.{◌≡◌, ℕ, List, count_by, nat_lt}
use Rattle.std.specs.BTreeSet as sorted
use Rattle.std.specs.Ordering.{eq_by_cmp}
use Rattle.std.specs.declared.cmp.Ordering.{Ordering}
use Rattle.esc_conformity.specs.declared.repeats.Repeats.{Repeats}

-- how often a value is among these
abbrev pub occurrences : {K : Type 0} → (K → K → Ordering) → K → List K → ℕ
occurrences cmp x xs = count_by (eq_by_cmp cmp x) xs

-- of these values it is kept which came, and which came again
pub record AreRepeatsIn {K : Type 0} (cmp : K → K → Ordering) (xs : List K) (s : Repeats K)
    : Type 0 where
  pub met : (x : K) → sorted.contains cmp s.met x ≡ nat_lt 0 (occurrences cmp x xs)
  pub repeated : (x : K) → sorted.contains cmp s.repeated x ≡ nat_lt 1 (occurrences cmp x xs)
