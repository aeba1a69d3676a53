-- Rows that list the parts of a series, all of them held, stand in one chain.
use Rattle.std.proofs.Common.{◌≡◌, ℕ, zero, suc, ◌+◌, ◌<◌, ◌≤◌, ℤ, ◌<ℤ◌, List, [], ◌∷◌, ◌++◌, reverse, length, None}
use Rattle.std.proofs.Common.{refl, sym, ap, subst, ◌∙◌, inl, inr, arith, eq-or-lt_of_le, Option}
use Rattle.std.specs.List.{range_with_len}
use Rattle.std.proofs.lemmas.Int.{ints}
use Rattle.std.proofs.lemmas.List.{reverse-append}
use Rattle.esc_envelope.specs.declared.place.DepositType.{DepositType}
use Rattle.esc_envelope.specs.Place.{IsUpTo}
use Rattle.esc_envelope.specs.HeaderValue.{HeaderValue}
use Rattle.esc_manifest.specs.declared.row.MRow.{MRow}
use Rattle.esc_manifest.specs.ManifestRows.{row_at, place_at, resend_at, watermark_at}
use Rattle.esc_chain.specs.declared.base.Base.TheVariants.{At}
use Rattle.esc_chain.specs.Base.{IsBase, IsBaseOf, IsNamedBy}
use Rattle.esc_chain.specs.Chain.{Rows, IsHeld, IsUsed, LeadsBack, IsLatestBackAt, IsLatestChainAt}
use Rattle.esc_deposit.specs.RegistrySeries.{part_header, part_moment}

-- one more number at the end of a range
range_last : (a n b : ℕ) → a + n ≡ b → range_with_len a (suc n) ≡ range_with_len a n ++ b ∷ []
range_last a zero b is = let same : a ≡ b = omega (arith, is) in ap (λ (c : ℕ). c ∷ []) same
range_last a (suc n) b is = ap (λ (l : List ℕ). a ∷ l) (range_last (a + 1) n b (omega (arith, is)))

-- from the end back it is the first
range_back : (n : ℕ) → reverse (range_with_len 0 (suc n)) ≡ n ∷ reverse (range_with_len 0 n)
range_back n = ap reverse (range_last 0 n n (omega arith)) ∙ reverse-append (range_with_len 0 n) (n ∷ [])

-- a part is earlier than each one after it
earlier : (w : ℤ) (n q k : ℕ) → q < k → k < n → part_moment w n q <ℤ part_moment w n k
earlier w n q k less below = omega (arith, ints)

module _ (id : List ℕ) (w : ℤ) (n : ℕ) (m : List MRow) (h : Rows) (many : length m ≡ n)
    (headers : (k : ℕ) → k < n → (row_at m k).header ≡ part_header id w n k)
    (held : (k : ℕ) → k < n → IsHeld h k) (within : (k : ℕ) → IsHeld h k → k < n) where
  -- each row is the only one of its place
  used : (k : ℕ) → k < n → IsUsed m h k
  used k below = record {
    held = held k below;
    greatest = λ q is same. subst (λ r. r ≤ resend_at m k)
        (sym (ap (λ (x : HeaderValue). x.resend) (headers q (within q is)))) (omega arith);
  }

  -- each but the first builds on the one before it
  based : (k : ℕ) → suc k < n → IsBase m (suc k) (At (place_at m k))
  based k below =
      let here = headers (suc k) below in
      let first : k < n = omega (arith, below) in
      subst (λ (type : DepositType). IsBaseOf m type (suc k) (At (place_at m k)))
      (sym (ap (λ (x : HeaderValue). x.place.kind) here))
      (subst (λ (prev : Option (List ℕ)). IsNamedBy m prev (At (place_at m k)))
      (sym (ap (λ (x : HeaderValue). x.prev) here))
      (k, omega (arith, below, many), ap (λ (x : HeaderValue). x.id) (headers k first), refl))

  -- the way from a row back to the first
  leads : (k : ℕ) → k < n → LeadsBack m h k (reverse (range_with_len 0 k))
  leads zero below = ap (λ (x : HeaderValue). x.place.kind) (headers 0 below)
  leads (suc k) below =
      let before : k < n = omega (arith, below) in
      subst (λ (l : List ℕ). LeadsBack m h (suc k) l) (sym (range_back k))
      (based k below, used k before, leads k before)

  -- no chain ends later than the last row
  ends : (last q : ℕ) → suc last ≡ n → IsHeld h q → IsUpTo (place_at m q) (place_at m last)
  ends last q is there =
      let inside : q < n = within q there in
      let least : q ≤ last = omega (arith, inside, is) in
      let below : last < n = omega (arith, is) in
      elim (eq-or-lt_of_le least) [
        | inl same ↦ inr (ap (place_at m) same)
        | inr less ↦ inl (inl (subst (λ (a : ℤ). a <ℤ watermark_at m last)
            (sym (ap (λ (x : HeaderValue). x.place.watermark) (headers q inside)))
            (subst (λ (b : ℤ). part_moment w n q <ℤ b)
            (sym (ap (λ (x : HeaderValue). x.place.watermark) (headers last below)))
            (earlier w n q last less below))))
      ]

  -- all rows in their order are the latest chain
  pub stand_in_turn : (last : ℕ) → suc last ≡ n → IsLatestChainAt m h None (range_with_len 0 n)
  stand_in_turn last is =
      let below : last < n = omega (arith, is) in
      subst (λ (c : ℕ). IsLatestChainAt m h None (range_with_len 0 c)) is
      (subst (λ (l : List ℕ). IsLatestBackAt m h None l) (sym (range_back last))
      ((used last below, leads last below), tt, λ q other back by. ends last q is back.0.held))
