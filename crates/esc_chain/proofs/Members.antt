-- What the rows of a chain are.
use Rattle.std.proofs.Common.{◌≢◌, ℕ, zero, suc, ◌-◌, ◌<◌, ◌≤◌, ℤ, pos, ◌+ℤ◌}
use Rattle.std.proofs.Common.{◌<ℤ◌, cond, List, [], ◌∷◌, length, reverse, Option, None, sym, subst}
use Rattle.std.proofs.Common.{◌∙◌, arith}
use Rattle.std.specs.Prelude.{slice_index}
use lib.Signed.{lt_z}
use Rattle.std.proofs.lemmas.Int.{ints}
use Rattle.std.proofs.lemmas.List.{get_or-reverse, length-reverse, reverse-reverse}
use Rattle.esc_manifest.specs.declared.row.MRow.{MRow}
use Rattle.esc_manifest.specs.ManifestRows.{place_at, watermark_at}
use Rattle.esc_manifest.specs.Accepted.{IsAccepted}
use Rattle.esc_chain.specs.Chain.{Rows, IsHeld, InRange, IsUsed, LeadsBack, IsLatestChain}
use Rattle.esc_chain.specs.Chain.{IsLatestBackAt, IsLatestChainAt, AreHeldRows}
use Rattle.esc_chain.proofs.Chains.{earlier, earlier_falls, base_earlier}

-- at most all rows are earlier
earlier_few : (w : ℤ) (m : List MRow) → earlier w m ≤ length m
earlier_few w [] = omega arith
earlier_few w (x ∷ m) =
    let one : cond (lt_z x.header.place.watermark w) 1 0 ≤ 1 = grind arith in
    omega (arith, one, earlier_few w m)

-- a row is not earlier than itself
earlier_below : (m : List MRow) (r : ℕ) → r < length m → earlier (watermark_at m r) m < length m
earlier_below m r within =
    let next : watermark_at m r <ℤ (watermark_at m r +ℤ pos 1) = omega (arith, ints) in
    omega (
      arith,
      earlier_falls (watermark_at m r +ℤ pos 1) m r within next,
      earlier_few (watermark_at m r +ℤ pos 1) m,
    )

-- a used row, at which a chain ends
abbrev pub IsEnd : List MRow → Rows → ℕ → Type 0
IsEnd m h r = IsUsed m h r × ((rest : List ℕ) × LeadsBack m h r rest)

-- each row of a chain, from its end back, is the end of one
pub member_back : (m : List MRow) (h : Rows) (e : ℕ) (rest : List ℕ) → IsUsed m h e → LeadsBack m h e rest
    → (k : ℕ) → k < length (e ∷ rest) → IsEnd m h (slice_index (e ∷ rest) k)
member_back m h e rest row leads zero below = (row, (rest, leads))
member_back m h e [] row leads (suc k) below = absurd (omega arith)
member_back m h e (s ∷ rest) row leads (suc k) below = member_back m h s rest leads.1 leads.2 k (omega arith)

-- what holds of a chain from its end back holds of it from its start on
turned : (m : List MRow) (h : Rows) (back : List ℕ) → AreHeldRows m h back → AreHeldRows m h (reverse back)
turned m h back are = record {
  few = rw length-reverse are.few;
  held = λ k below.
      let lt : k < length back = rw length-reverse at below in
      rw (get_or-reverse back k 0) (are.held (length back - 1 - k) (omega arith));
  in_range = λ k below.
      let lt : k < length back = rw length-reverse at below in
      rw (get_or-reverse back k 0) (are.in_range (length back - 1 - k) (omega arith));
  once = λ j k lt below same.
      let within : k < length back = rw length-reverse at below in
      let near : j < length back = omega arith in
      are.once (length back - 1 - k) (length back - 1 - j) (omega arith) (omega arith)
      (sym (get_or-reverse back k 0 within) ∙ sym same ∙ get_or-reverse back j 0 near);
}

module _ (m : List MRow) (h : Rows) (ok : IsAccepted m) (range : InRange m h) where
  -- before a row in a chain there are at most as many rows as are earlier
  leads_few : (r : ℕ) (c : List ℕ)
      → r < length m → LeadsBack m h r c → length c ≤ earlier (watermark_at m r) m
  leads_few r [] within leads = omega arith
  leads_few r (s ∷ c) within leads =
      let inside = range s leads.1.held in
      let lt = base_earlier m ok r (place_at m s) within leads.0 in
      omega (arith, leads_few s c inside leads.2, earlier_falls (watermark_at m r) m s inside lt)

  -- the rows before a row in a chain are earlier
  behind_earlier : (r : ℕ) (c : List ℕ) → r < length m → LeadsBack m h r c
      → (k : ℕ) → k < length c → watermark_at m (slice_index c k) <ℤ watermark_at m r
  behind_earlier r [] within leads k below = absurd (omega arith)
  behind_earlier r (s ∷ c) within leads zero below = base_earlier m ok r (place_at m s) within leads.0
  behind_earlier r (s ∷ c) within leads (suc k) below =
      let inside = range s leads.1.held in
      let lt : k < length c = omega arith in
      let first = base_earlier m ok r (place_at m s) within leads.0 in
      let rest = behind_earlier s c inside leads.2 k lt in
      omega (arith, ints)

  -- no row occurs twice
  apart : (r : ℕ) (c : List ℕ) → r < length m → LeadsBack m h r c
      → (j k : ℕ) → j < k → k < length (r ∷ c) → slice_index (r ∷ c) j ≢ slice_index (r ∷ c) k
  apart r c within leads zero zero lt below = absurd (omega arith)
  apart r c within leads zero (suc k) lt below = λ same.
      let earlier_row = behind_earlier r c within leads k (omega arith) in
      let itself : watermark_at m r <ℤ watermark_at m r =
      subst (λ (q : ℕ). watermark_at m q <ℤ watermark_at m r) (sym same) earlier_row in
      omega (arith, ints)
  apart r c within leads (suc j) zero lt below = absurd (omega arith)
  apart r [] within leads (suc j) (suc k) lt below = absurd (omega arith)
  apart r (s ∷ c) within leads (suc j) (suc k) lt below =
      apart s c (range s leads.1.held) leads.2 j k (omega arith) (omega arith)

  back_is_held : (t : Option ℤ) (c : List ℕ) → IsLatestBackAt m h t c → AreHeldRows m h c
  back_is_held t [] latest = record {
    few = omega arith;
    held = λ k below. absurd (omega arith);
    in_range = λ k below. absurd (omega arith);
    once = λ j k lt below. absurd (omega arith);
  }
  back_is_held t (r ∷ c) latest =
      let few : length m ≤ 4096 = ok.few in
      let within = range r latest.0.0.held in
      let held : (k : ℕ) → k < length (r ∷ c) → IsHeld h (slice_index (r ∷ c) k) =
      λ k below. (member_back m h r c latest.0.0 latest.0.1 k below).0.held in
      record {
        few = omega (arith, few, leads_few r c within latest.0.1, earlier_below m r within);
        held = held;
        in_range = λ k below. range _ (held k below);
        once = apart r c within latest.0.1;
      }

-- the rows of a latest chain
pub latest_at_is_held : (m : List MRow) (h : Rows) (t : Option ℤ) (c : List ℕ) → IsAccepted m → InRange m h
    → IsLatestChainAt m h t c → AreHeldRows m h c
latest_at_is_held m h t c ok range latest =
    subst (AreHeldRows m h) (reverse-reverse c)
    (turned m h (reverse c) (back_is_held m h ok range t (reverse c) latest))

-- the rows of the latest chain are held
pub latest_is_held : (m : List MRow) (h : Rows) (c : List ℕ) → IsAccepted m → InRange m h
    → IsLatestChain m h c → AreHeldRows m h c
latest_is_held m h = latest_at_is_held m h None
