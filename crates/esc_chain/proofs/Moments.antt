-- The latest chain up to a moment is the latest chain of the held rows that are not later.
use Rattle.std.proofs.Common.{◌≡◌, ◌⊎◌, inl, inr, ◌↔◌, ℕ, ◌+◌, ◌<◌, true, ◌||◌, ℤ}
use Rattle.std.proofs.Common.{◌<ℤ◌, List, [], ◌∷◌, length, reverse, Option, Some, None, sym, ap, subst}
use Rattle.std.proofs.Common.{◌∙◌, arith}
use Rattle.std.specs.FinSet as set
use Rattle.std.specs.Cmp.{nat_cmp_total}
use Rattle.std.specs.Ordering.{nat_cmp, eq_by_cmp}
use Rattle.std.proofs.lemmas.Bool.{false≢true, or_cases}
use Rattle.std.proofs.lemmas.Bool.Decides.{nat_tests}
use Rattle.std.proofs.lemmas.Int.{ints}
use Rattle.std.proofs.lemmas.Map.Lookups.{exact_unsigned}
use Rattle.std.proofs.lemmas.Map.Views.{tells_apart}
use Rattle.std.proofs.Math.Bool.{or-true}
use Rattle.esc_envelope.specs.declared.place.Place.{Place}
use Rattle.esc_manifest.specs.declared.row.MRow.{MRow}
use Rattle.esc_manifest.specs.ManifestRows.{place_at, watermark_at}
use Rattle.esc_manifest.specs.Accepted.{IsAccepted}
use Rattle.esc_chain.specs.Chain.{Rows, IsHeld, InRange, IsUsed, LeadsBack, IsChainBack, IsLatestChain}
use Rattle.esc_chain.specs.Chain.{IsBy, IsLatestBackAt, IsLatestChainAt, AreUntil}
use Rattle.esc_chain.proofs.Chains.{base_earlier}
use Rattle.esc_chain.proofs.HeldRows.{none_in_range, one_more_in_range}
use Rattle.esc_chain.proofs.Rows.{at_more}

-- what is earlier is not later than the moment
earlier_by : (t : Option ℤ) (v w : ℤ) → v <ℤ w → IsBy t w → IsBy t v
earlier_by None v w lt by = tt
earlier_by (Some t) v w lt by = omega (arith, ints, lt, by)

module _ (m : List MRow)
    (h g : Rows) (t : Option ℤ) (ok : IsAccepted m) (range : InRange m h) (are : AreUntil m h t g) where
  -- the used rows up to the moment are those of the rows up to it
  used_in : (r : ℕ) → IsUsed m h r → IsBy t (watermark_at m r) → IsUsed m g r
  used_in r row by = record {
    held = (are r).1 (row.held, by);
    greatest = λ q there same. row.greatest q ((are q).0 there).0 same;
  }

  used_out : (r : ℕ) → IsUsed m g r → IsUsed m h r
  used_out r row = record {
    held = ((are r).0 row.held).0;
    greatest = λ q there same.
        let until = subst (λ (p : Place). IsBy t p.watermark) (sym same) ((are r).0 row.held).1 in
        row.greatest q ((are q).1 (there, until)) same;
  }

  by_of : (r : ℕ) → IsUsed m g r → IsBy t (watermark_at m r)
  by_of r row = ((are r).0 row.held).1

  leads_out : (r : ℕ) (c : List ℕ) → LeadsBack m g r c → LeadsBack m h r c
  leads_out r [] full = full
  leads_out r (s ∷ c) leads = (leads.0, used_out s leads.1, leads_out s c leads.2)

  leads_in : (r : ℕ) (c : List ℕ)
      → r < length m → IsBy t (watermark_at m r) → LeadsBack m h r c → LeadsBack m g r c
  leads_in r [] within by full = full
  leads_in r (s ∷ c) within by leads =
      let lt : watermark_at m s <ℤ watermark_at m r = base_earlier m ok r (place_at m s) within leads.0 in
      let before : IsBy t (watermark_at m s) = earlier_by t (watermark_at m s) (watermark_at m r) lt by in
      (leads.0, used_in s leads.1 before, leads_in s c (range s leads.1.held) before leads.2)

  chain_in : (q : ℕ) (other : List ℕ) → IsChainBack m h (q ∷ other) → IsBy t (watermark_at m q)
      → IsChainBack m g (q ∷ other)
  chain_in q other is by = (used_in q is.0 by, leads_in q other (range q is.0.held) by is.1)

  back_until : (c : List ℕ) → IsLatestBackAt m g None c → IsLatestBackAt m h t c
  back_until [] latest = λ q other is by. latest q other (chain_in q other is by) tt
  back_until (r ∷ rest) latest = (
    (used_out r latest.0.0, leads_out r rest latest.0.1),
    by_of r latest.0.0,
    λ q other is by. latest.2 q other (chain_in q other is by) tt,
  )

  pub at_until : (c : List ℕ) → IsLatestChain m g c → IsLatestChainAt m h t c
  at_until c latest = back_until (reverse c) latest

-- ---- the rows up to a moment, found one by one

-- of the first n rows those that are held and not later than the moment
pub record IsUntilBelow (m : List MRow) (h : Rows) (t : Option ℤ) (n : ℕ) (g : Rows) : Type 0 where
  pub in_range : InRange m g
  pub each : (r : ℕ) → IsHeld g r ↔ ((r < n) × IsHeld h r × IsBy t (watermark_at m r))

-- at the start no row is taken
pub until_none : (m : List MRow) (h : Rows) (t : Option ℤ) (g : Rows) → g ≡ set.empty → IsUntilBelow m h t 0 g
until_none m h t g is = record {
  in_range = none_in_range m g is;
  each = λ r. (
    λ there. absurd (false≢true
        (sym (ap (λ (x : Rows). set.contains x r) is ∙ set.contains-empty nat_cmp r) ∙ there)),
    λ at. absurd (let lt = at.0 in omega (arith, lt)),
  );
}

-- a row that does not count is left
pub until_skip : (m : List MRow) (h : Rows) (t : Option ℤ) (n : ℕ) (g : Rows)
    → ((IsHeld h n × IsBy t (watermark_at m n)) → ⊥) → IsUntilBelow m h t n g → IsUntilBelow m h t (n + 1) g
until_skip m h t n g not_here known = record {
  in_range = known.in_range;
  each = λ r. (
    λ there. let at = (known.each r).0 there in (let lt = at.0 in omega (arith, lt), at.1, at.2),
    λ at. at_more n (λ q. (IsHeld h q × IsBy t (watermark_at m q)) → IsHeld g q)
        (λ q lt is. (known.each q).1 (lt, is.0, is.1)) (λ is. absurd (not_here is)) r at.0 (at.1, at.2),
  );
}

-- a row that counts is taken
pub until_more : (m : List MRow) (h : Rows) (t : Option ℤ) (n : ℕ) (g : Rows) → n < length m
    → (IsHeld h n × IsBy t (watermark_at m n))
    → IsUntilBelow m h t n g → IsUntilBelow m h t (n + 1) (set.insert g n)
until_more m h t n g within here known = record {
  in_range = one_more_in_range m g n within known.in_range;
  each = λ r. (
    λ there. out r (or_cases _ _ (sym (set.contains-insert nat_cmp_total g n r) ∙ there)),
    λ at. at_more n (λ q. (IsHeld h q × IsBy t (watermark_at m q)) → IsHeld (set.insert g n) q)
        (λ q lt is. stays q ((known.each q).1 (lt, is.0, is.1))) (λ is. own) r at.0 (at.1, at.2),
  );
}
  where
    out : (r : ℕ) → (eq_by_cmp nat_cmp r n ≡ true) ⊎ (set.contains g r ≡ true)
        → (r < n + 1) × IsHeld h r × IsBy t (watermark_at m r)
    out r (inl same) =
        let e : r ≡ n = tells_apart exact_unsigned r n same in
        let is = subst (λ (q : ℕ). IsHeld h q × IsBy t (watermark_at m q)) (sym e) here in
        (omega (arith, e), is.0, is.1)
    out r (inr old) = let at = (known.each r).0 old in (let lt = at.0 in omega (arith, lt), at.1, at.2)

    own : IsHeld (set.insert g n) n
    own =
        let same : eq_by_cmp nat_cmp n n ≡ true = grind (arith, nat_tests) in
        set.contains-insert nat_cmp_total g n n ∙ ap (λ b. b || set.contains g n) same

    stays : (q : ℕ) → IsHeld g q → IsHeld (set.insert g n) q
    stays q is =
        set.contains-insert nat_cmp_total g n q
        ∙ ap (λ b. eq_by_cmp nat_cmp q n || b) is ∙ or-true (eq_by_cmp nat_cmp q n)

-- after the last row all that count are taken
pub until_all : (m : List MRow) (h : Rows) (t : Option ℤ) (g : Rows)
    → InRange m h → IsUntilBelow m h t (length m) g
    → AreUntil m h t g
until_all m h t g range known r = (
  λ there. let at = (known.each r).0 there in (at.1, at.2),
  λ at. (known.each r).1 (range r at.0, at.0, at.1),
)
