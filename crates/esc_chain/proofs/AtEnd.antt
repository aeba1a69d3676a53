-- A row that comes after all others, and builds on the end of their latest chain, goes at its end.
use Rattle.std.proofs.Common.{◌≡◌, inl, inr, ℕ, ℤ, ◌<◌, ◌≤◌, List, [], ◌∷◌, length, reverse}
use Rattle.std.proofs.Common.{Option, refl, sym, ap, subst, ◌∙◌, arith}
use Rattle.std.specs.Prelude.{slice_index}
use Rattle.std.specs.List.{Contains}
use Rattle.std.specs.FinSet as set
use Rattle.std.specs.Cmp.{nat_cmp_total, eq_by_cmp_equiv}
use Rattle.std.proofs.lemmas.List.{reverse-append, get_or_default}
use Rattle.std.proofs.lemmas.Map.Lookups.{exact_unsigned}
use Rattle.std.proofs.lemmas.Map.Views.{list_any-from_Contains, Contains-from_any, tells_apart}
use Rattle.esc_envelope.specs.declared.place.Place.{Place}
use Rattle.esc_envelope.specs.Place.{IsBefore, IsUpTo}
use Rattle.esc_manifest.specs.declared.row.MRow.{MRow}
use Rattle.esc_manifest.specs.ManifestRows.{place_at, resend_at}
use Rattle.esc_manifest.specs.Accepted.{IsAccepted}
use Rattle.esc_chain.specs.declared.base.Base.{Base}
use Rattle.esc_chain.specs.declared.base.Base.TheVariants.{Whole, At, Unlisted}
use Rattle.esc_chain.specs.Base.{IsBase}
use Rattle.esc_chain.specs.Chain.{Rows, IsHeld, InRange, IsUsed, LeadsBack, IsLatestBackAt}
use Rattle.esc_chain.specs.AtEnd.{ComesLast, GoesAtEnd, HasOneMore, LengthensLatest}
use Rattle.esc_chain.proofs.Chains.{base_not_full, base_same}
use Rattle.esc_chain.proofs.LatestEnd.{whole_is_full, unlisted_not_at}
use Rattle.esc_chain.proofs.Places.{never_both}

-- no place is before itself
not_itself : (a b : Place) → IsBefore a b → a ≡ b → ⊥
not_itself a b before same = let itself = subst (IsBefore a) (sym same) before in never_both a a itself itself

-- the rows of a list, as a set
in_list : (rows : List ℕ) (q : ℕ) → IsHeld (set.from_list rows) q → Contains rows q
in_list rows q held = Contains-from_any (tells_apart exact_unsigned)
    q rows (sym (set.contains-from_list nat_cmp_total rows q) ∙ held)

in_set : (rows : List ℕ) (q : ℕ) → Contains rows q → IsHeld (set.from_list rows) q
in_set rows q there = set.contains-from_list nat_cmp_total rows q
    ∙ list_any-from_Contains (eq_by_cmp_equiv nat_cmp_total) q rows there

-- what holds of each element holds at each place, and conversely
pub at_each : (P : ℕ → Type 0) (rows : List ℕ)
    → ((k : ℕ) → k < length rows → P (slice_index rows k)) → (q : ℕ) → Contains rows q → P q
at_each P rows all q there = subst P (get_or_default rows there.0 0 q there.1 ∙ there.2) (all there.0 there.1)

-- what holds of each row holds at each place
pub each_at : (P : ℕ → Type 0) (rows : List ℕ)
    → ((q : ℕ) → Contains rows q → P q) → (k : ℕ) → k < length rows → P (slice_index rows k)
each_at P rows all k within = all (slice_index rows k) (k, within, get_or_default rows k (slice_index rows k) 0 within)

-- a row has one base
pub only_base : (m : List MRow)
    → IsAccepted m → (r : ℕ) (b : Base) (p : Place) → IsBase m r b → IsBase m r (At p) → b ≡ At p
only_base m ok r Whole p is at = absurd (base_not_full m r p at (whole_is_full m r is))
only_base m ok r (At q) p is at = ap At (base_same m ok r q p is at)
only_base m ok r Unlisted p is at = absurd (unlisted_not_at m r p is at)

-- rows that come before the last one are rows
pub last_in_range : (m : List MRow) (rows : List ℕ) (t : Option ℤ) (r : ℕ)
    → ComesLast m rows t r → InRange m (set.from_list rows)
last_in_range m rows t r last q held = (last.last q (in_list rows q held)).0

module _ (m : List MRow) (rows : List ℕ)
    (t : Option ℤ) (r : ℕ) (last : ComesLast m rows t r) (h : Rows) (more : HasOneMore h rows r) where
  abbrev all : Rows
  all = set.from_list rows

  last_held : IsHeld all r
  last_held = in_set rows r ((more r).1 (inr refl))

  still_held : (q : ℕ) → IsHeld h q → IsHeld all q
  still_held q old = in_set rows q ((more q).1 (inl old))

  -- another row of its place is no other row
  is_last : (q : ℕ) → IsHeld all q → place_at m q ≡ place_at m r → q ≡ r
  is_last q held same = elim (last.last q (in_list rows q held)).1
      [ inl is ↦ is | inr before ↦ absurd (not_itself _ _ before same) ]

  used_last : IsUsed m all r
  used_last = record {
    held = last_held;
    greatest = λ q held same. let is = is_last q held same in
        subst (λ (x : ℕ). resend_at m x ≤ resend_at m r) (sym is) (omega arith);
  }

  used_still : (q : ℕ) → IsUsed m h q → IsUsed m all q
  used_still q used = record {
    held = still_held q used.held;
    greatest = λ x held same. elim ((more x).0 (in_list rows x held)) [
      | inl old ↦ used.greatest x old same
      | inr new ↦
          let is : q ≡ r = is_last q (still_held q used.held) (sym same ∙ ap (place_at m) new) in
          subst (λ (y : ℕ). resend_at m x ≤ resend_at m y) (new ∙ sym is) (omega arith)
    ];
  }

  leads_still : (q : ℕ) (rest : List ℕ) → LeadsBack m h q rest → LeadsBack m all q rest
  leads_still q [] full = full
  leads_still q (s ∷ rest) leads = (leads.0, used_still s leads.1, leads_still s rest leads.2)

  none_later : (q : ℕ) → IsHeld all q → IsUpTo (place_at m q) (place_at m r)
  none_later q held = elim (last.last q (in_list rows q held)).1
      [ inl is ↦ inr (ap (place_at m) is) | inr before ↦ inl before ]

  lengthened : (s : ℕ) (rest : List ℕ) → IsBase m r (At (place_at m s))
      → IsLatestBackAt m h t (s ∷ rest) → IsLatestBackAt m all t (r ∷ s ∷ rest)
  lengthened s rest base latest = (
    (used_last, (base, used_still s latest.0.0, leads_still s rest latest.0.1)),
    last.by,
    λ q other chain by. none_later q chain.0.held,
  )

-- a row that goes at the end lengthens the latest chain
pub lengthens : (m : List MRow) (rows : List ℕ) (t : Option ℤ) (p : Place) (r : ℕ)
    → GoesAtEnd m rows t p r → LengthensLatest m rows t p r
lengthens m rows t p r goes h c s more at latest =
    let base = subst (λ (x : Place). IsBase m r (At x)) (sym at) goes.1 in
    let back = subst (IsLatestBackAt m h t) (reverse-append c (s ∷ [])) latest in
    subst (IsLatestBackAt m (set.from_list rows) t) (sym (reverse-append c (s ∷ r ∷ [])))
    (lengthened m rows t r goes.0 h more s (reverse c) base back)
