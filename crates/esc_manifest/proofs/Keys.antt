-- Rows by their keys: what a collection that a loop over rows fills says of them.
use Rattle.std.proofs.Common.{◌≡◌, ℕ, ◌+◌, ◌<◌, ◌≤◌, Bool, true, false, cond, List, length}
use Rattle.std.proofs.Common.{get_or, None, refl, sym, ap, subst, ◌∙◌, arith, inl, inr}
use Rattle.std.specs.BTreeSet.{BTreeSet, contains, Updates}
use Rattle.std.specs.Ordering.{is_eq}
use Rattle.std.specs.declared.cmp.Ordering.{Ordering}
use Rattle.std.proofs.lemmas.Bool.{cases_Bool, cases_lt}
use Rattle.std.proofs.lemmas.List.{get_or_read}
use Rattle.esc_manifest.specs.declared.row.MRow.{MRow}
use Rattle.esc_manifest.specs.ManifestRows.{no_row, row_at}
use Rattle.esc_manifest.specs.RowFaults.{first_against_earlier}
use Rattle.esc_manifest.proofs.AcceptedRows.{no_earlier}

-- no row so far contradicts an earlier one, and the set has the keys of the rows so far
pub record AreApart {K : Type 0} (cmp : K → K → Ordering) (key : MRow → K)
    (against : MRow → MRow → Bool) (rows : List MRow) (i : ℕ) (s : BTreeSet K) : Type 0 where
  pub apart : (q k : ℕ) → q < k → k < i → against (row_at rows q) (row_at rows k) ≡ false
  pub has : (k : ℕ) → k < i → contains cmp s (key (row_at rows k)) ≡ true

either : (b : Bool) → cond b true true ≡ true
either true = refl
either false = refl

-- one more row, whose key was new: where rows that contradict each other have one key
pub one_more : {K : Type 0} (cmp : K → K → Ordering) (key : MRow → K) (against : MRow → MRow → Bool)
    → ((q r : MRow) → against q r ≡ true → key q ≡ key r) → ((k : K) → is_eq (cmp k k) ≡ true)
    → (rows : List MRow) (i : ℕ) (row : MRow) (own_key : K) (s n : BTreeSet K)
    → i < length rows → row ≡ get_or rows i row
    → own_key ≡ key row → contains cmp s own_key ≡ false → Updates cmp s n own_key true
    → AreApart cmp key against rows i s → AreApart cmp key against rows (i + 1) n
one_more {K} cmp key against one_key own rows i row own_key s n inside is key_is new updates known =
    record { apart = apart; has = has }
  where
    at : row ≡ row_at rows i
    at = get_or_read rows i row inside is no_row

    here : (q : ℕ) → q < i → against (row_at rows q) (row_at rows i) ≡ false
    here q before = elim (cases_Bool (against (row_at rows q) (row_at rows i))) [
      | inl stands ↦
          let same : key (row_at rows q) ≡ own_key =
          one_key (row_at rows q) (row_at rows i) stands ∙ ap key (sym at) ∙ sym key_is in
          let there : contains cmp s own_key ≡ true =
          subst (λ (k : K). contains cmp s k ≡ true) same (known.has q before) in
          absurd cc
      | inr free ↦ free
    ]

    apart : (q k : ℕ) → q < k → k < i + 1 → against (row_at rows q) (row_at rows k) ≡ false
    apart q k before lt = elim (cases_lt k i) [
      | inl below ↦ known.apart q k before below
      | inr above ↦ let last : i ≡ k = omega arith in
          subst (λ (k : ℕ). against (row_at rows q) (row_at rows k) ≡ false) last (here q (omega arith))
    ]

    has : (k : ℕ) → k < i + 1 → contains cmp n (key (row_at rows k)) ≡ true
    has k lt = elim (cases_lt k i) [
      | inl below ↦ updates.0 (key (row_at rows k))
          ∙ rw (known.has k below) (either (is_eq (cmp own_key (key (row_at rows k)))))
      | inr above ↦
          let last : i ≡ k = omega arith in
          let same : own_key ≡ key (row_at rows k) = key_is ∙ ap key (at ∙ ap (row_at rows) last) in
          subst (λ (x : K). contains cmp n x ≡ true) same (updates.0 own_key ∙ rw (own own_key) refl)
    ]

-- past the last row
pub all_apart : {K : Type 0} (cmp : K → K → Ordering)
    (key : MRow → K) (against : MRow → MRow → Bool) (rows : List MRow) (i : ℕ) (s : BTreeSet K)
    → length rows ≤ i → AreApart cmp key against rows i s → first_against_earlier against rows ≡ None
all_apart cmp key against rows i s le known =
    no_earlier against rows (λ q r before lt. known.apart q r before (omega arith))
