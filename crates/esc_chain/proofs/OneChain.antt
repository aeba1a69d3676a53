-- From a row there is one way back, and there is one latest chain.
use Rattle.std.proofs.Common.{◌≡◌, ◌↔◌, ℕ, ℤ, List, [], ◌∷◌, reverse, Option, refl, sym, ap}
use Rattle.std.proofs.Common.{subst, ◌∙◌}
use Rattle.std.specs.Bool.{one_answer}
use Rattle.std.specs.FinSet as set
use Rattle.std.specs.Cmp.{nat_cmp_total}
use Rattle.std.proofs.lemmas.List.{reverse-reverse}
use Rattle.esc_manifest.specs.declared.row.MRow.{MRow}
use Rattle.esc_manifest.specs.ManifestRows.{place_at}
use Rattle.esc_manifest.specs.Accepted.{IsAccepted}
use Rattle.esc_chain.specs.Chain.{Rows, IsHeld, InRange, LeadsBack, IsLatestBackAt, IsLatestChainAt}
use Rattle.esc_chain.proofs.Chains.{used_same, base_same, base_not_full}
use Rattle.esc_chain.proofs.Places.{up_to_both}

module _ (m : List MRow) (h : Rows) (ok : IsAccepted m) (range : InRange m h) where
  -- from a row there is one way back
  leads_same : (r : ℕ) (c d : List ℕ) → LeadsBack m h r c → LeadsBack m h r d → c ≡ d
  leads_same r [] [] a b = refl
  leads_same r [] (t ∷ d) a b = absurd (base_not_full m r (place_at m t) b.0 a)
  leads_same r (s ∷ c) [] a b = absurd (base_not_full m r (place_at m s) a.0 b)
  leads_same r (s ∷ c) (t ∷ d) a b =
      let e = used_same m h ok range s t a.1 b.1 (base_same m ok r _ _ a.0 b.0) in
      let rest = leads_same t c d (subst (λ (q : ℕ). LeadsBack m h q c) e a.2) b.2 in
      λ i. e i ∷ rest i

  -- there is one latest chain
  pub latest_same : (t : Option ℤ) (c d : List ℕ) → IsLatestBackAt m h t c → IsLatestBackAt m h t d → c ≡ d
  latest_same t [] [] a b = refl
  latest_same t [] (q ∷ d) a b = absurd (a q d b.0 b.1)
  latest_same t (r ∷ c) [] a b = absurd (b r c a.0 a.1)
  latest_same t (r ∷ c) (q ∷ d) a b =
      let e = used_same m h ok range r q a.0.0 b.0.0 (up_to_both _ _ (b.2 r c a.0 a.1) (a.2 q d b.0 b.1)) in
      let rest = leads_same q c d (subst (λ (x : ℕ). LeadsBack m h x c) e a.0.1) b.0.1 in
      λ i. e i ∷ rest i

-- sets of the same rows are one
pub same_rows : (h g : Rows) → ((r : ℕ) → IsHeld h r ↔ IsHeld g r) → h ≡ g
same_rows h g same = set.same_set nat_cmp_total set.nat_cmp-IsAntisymmetric
    h g (λ r. one_answer (set.contains h r) (set.contains g r) (same r) (λ held. held, λ held. held))

-- there is one latest chain, by the rows that are held
pub latest_at_is_one : (m : List MRow) (h g : Rows) (t : Option ℤ) (c d : List ℕ) → IsAccepted m → InRange m h
    → ((r : ℕ) → IsHeld h r ↔ IsHeld g r) → IsLatestChainAt m h t c → IsLatestChainAt m g t d → c ≡ d
latest_at_is_one m h g t c d ok range same a b =
    let other = subst (λ (x : Rows). IsLatestChainAt m x t d) (sym (same_rows h g same)) b in
    let back = latest_same m h ok range t (reverse c) (reverse d) a other in
    sym (reverse-reverse c) ∙ ap reverse back ∙ reverse-reverse d
