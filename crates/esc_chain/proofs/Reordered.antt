-- Manifests that list the same rows, in whatever order, have latest chains of the same rows.
use Rattle.std.proofs.Common.{◌≡◌, ℕ, ◌<◌, ◌≤◌, ℤ, ◌<ℤ◌, ◌≤ℤ◌, List, [], ◌∷◌}
use Rattle.std.proofs.Common.{◌++◌, length, reverse, Contains, Option, Some, None, refl, sym, ap, ap₂}
use Rattle.std.proofs.Common.{subst, subst₂, ◌∙◌}
use Rattle.std.proofs.lemmas.List.{get_or_default, map-append, reverse-append, reverse-reverse}
use Rattle.esc_envelope.specs.declared.place.DepositType.{DepositType}
use Rattle.esc_envelope.specs.declared.place.DepositType.TheVariants.{Diff, Incr, Full}
use Rattle.esc_envelope.specs.declared.place.Place.{Place}
use Rattle.esc_envelope.specs.Place.{IsUpTo}
use Rattle.esc_manifest.specs.declared.row.MRow.{MRow}
use Rattle.esc_manifest.specs.ManifestRows.{no_row, row_at, place_at, kind_at, watermark_at, prev_at, resend_at}
use Rattle.esc_chain.specs.declared.base.Base.TheVariants.{At}
use Rattle.esc_chain.specs.Base.{IsFullBefore, IsLastFull, IsNamedBy, IsBaseOf, IsBase}
use Rattle.esc_chain.specs.Chain.{Rows, IsHeld, IsUsed, LeadsBack, IsChainBack, IsBy, IsLatestBackAt}
use Rattle.esc_chain.specs.Laws.{HoldsRow, rows_along, ChainsAreOfRows}
use Rattle.esc_chain.proofs.OneChain.{latest_same}

-- each row of the first is a row of the second
abbrev AreAlso : List MRow → List MRow → Type 0
AreAlso m n = (r : ℕ) → r < length m → (s : ℕ) × (s < length n) × (row_at n s ≡ row_at m r)

are_also : (m n : List MRow) → ((x : MRow) → Contains m x → Contains n x) → AreAlso m n
are_also m n listed r within =
    let x = listed (row_at m r) (r, within, get_or_default m r (row_at m r) no_row within) in
    (x.0, x.1, get_or_default n x.0 no_row (row_at m r) x.1 ∙ x.2)

-- each held row of the first is a held row of the second
abbrev HeldAlso : List MRow → Rows → List MRow → Rows → Type 0
HeldAlso m h n g = (x : MRow) → HoldsRow m h x → HoldsRow n g x

-- ---- bases are of rows

full_also : (m n : List MRow) (w : ℤ) (r s : ℕ)
    → s < length n → row_at n s ≡ row_at m r → IsFullBefore m w r
    → IsFullBefore n w s
full_also m n w r s within is full = (
  within,
  ap (λ (x : MRow). x.header.place.kind) is ∙ full.1,
  subst (λ (x : MRow). x.header.place.watermark <ℤ w) (sym is) full.2,
)

module _ (m n : List MRow) (also : AreAlso m n) (back : AreAlso n m) where
  last_also : (w : ℤ) (p : Place) → IsLastFull m w (At p) → IsLastFull n w (At p)
  last_also w p last =
      let x = also last.0.0 last.0.1.0 in (
        (x.0, full_also m n w last.0.0 x.0 x.1 x.2 last.0.1, ap (λ (y : MRow). y.header.place) x.2 ∙ last.0.2),
        λ s full.
            let y = back s full.0 in
            subst (λ (z : MRow). z.header.place.watermark ≤ℤ p.watermark)
            y.2 (last.1 y.0 (full_also n m w s y.0 y.1 y.2 full)),
      )

  named_also : (prev : Option (List ℕ)) (p : Place) → IsNamedBy m prev (At p) → IsNamedBy n prev (At p)
  named_also None p named = named
  named_also (Some id) p named =
      let x = also named.0 named.1 in
      (x.0, x.1, ap (λ (y : MRow). y.header.id) x.2 ∙ named.2, ap (λ (y : MRow). y.header.place) x.2 ∙ named.3)

  -- a row builds on the same place, wherever it is listed
  base_also : (r s : ℕ) (p : Place) → row_at n s ≡ row_at m r → IsBase m r (At p) → IsBase n s (At p)
  base_also r s p is base =
      subst (λ (k : DepositType). IsBaseOf n k s (At p)) (ap (λ (x : MRow). x.header.place.kind) (sym is))
      (by_kind (kind_at m r) base)
    where
      by_kind : (k : DepositType) → IsBaseOf m k r (At p) → IsBaseOf n k s (At p)
      by_kind Full none = none
      by_kind Incr last =
          subst (λ (w : ℤ). IsLastFull n w (At p)) (ap (λ (x : MRow). x.header.place.watermark) (sym is))
          (last_also (watermark_at m r) p last)
      by_kind Diff named =
          subst (λ (o : Option (List ℕ)). IsNamedBy n o (At p)) (ap (λ (x : MRow). x.header.prev) (sym is))
          (named_also (prev_at m r) p named)

  -- ---- chains are of rows
  module _ (h g : Rows) (held_also : HeldAlso m h n g) (held_back : HeldAlso n g m h) where
    -- a used row is used by the other manifest too
    used_also : (r : ℕ) → IsUsed m h r → (s : ℕ) × IsUsed n g s × (row_at n s ≡ row_at m r)
    used_also r used =
        let x = held_also (row_at m r) (r, used.held, refl) in
        let greatest : (q : ℕ) → IsHeld g q
        → place_at n q ≡ place_at n x.0 → resend_at n q ≤ resend_at n x.0 = λ q held same.
        let y = held_back (row_at n q) (q, held, refl) in
        let there = ap (λ (z : MRow). z.header.place) y.2 ∙ same ∙ ap (λ (z : MRow). z.header.place) x.2 in
        let le : resend_at m y.0 ≤ resend_at m r = used.greatest y.0 y.1 there in
        subst₂ (λ (a b : MRow). a.header.resend ≤ b.header.resend) y.2 (sym x.2) le in
        (x.0, record { held = x.1; greatest = greatest }, x.2)

    -- a way back by the one manifest is one by the other, through the same rows
    leads_also : (r s : ℕ) (c : List ℕ) → row_at n s ≡ row_at m r → LeadsBack m h r c
        → (d : List ℕ) × LeadsBack n g s d × (rows_along n d ≡ rows_along m c)
    leads_also r s [] is full = ([], ap (λ (x : MRow). x.header.place.kind) is ∙ full, refl)
    leads_also r s (q ∷ c) is leads =
        let x = used_also q leads.1 in
        let rest = leads_also q x.0 c x.2 leads.2 in
        let base : IsBase n s (At (place_at n x.0)) =
        subst (λ (y : MRow). IsBase n s (At y.header.place)) (sym x.2) (base_also r s (place_at m q) is leads.0) in
        (x.0 ∷ rest.0, (base, x.1, rest.1), ap₂ (λ (y : MRow) (ys : List MRow). y ∷ ys) x.2 rest.2)

    -- and so is a chain
    chain_also : (r : ℕ) (c : List ℕ) → IsChainBack m h (r ∷ c)
        → (s : ℕ) × (d : List ℕ)
        × IsChainBack n g (s ∷ d) × (row_at n s ≡ row_at m r) × (rows_along n d ≡ rows_along m c)
    chain_also r c chain =
        let x = used_also r chain.0 in
        let rest = leads_also r x.0 c x.2 chain.1 in
        (x.0, rest.0, (x.1, rest.1), x.2, rest.2)

-- by the rows of the first manifest, the latest chain of the second is one of the first
module _ (m n : List MRow) (also : AreAlso m n) (back : AreAlso n m)
    (h g : Rows) (held_also : HeldAlso m h n g) (held_back : HeldAlso n g m h) where
  latest_also : (t : Option ℤ) (d : List ℕ) → IsLatestBackAt n g t d
      → (c : List ℕ) × IsLatestBackAt m h t c × (rows_along m c ≡ rows_along n d)
  latest_also t [] none = (
    [],
    λ q other chain by.
        let x = chain_also m n also back h g held_also held_back q other chain in
        none x.0 x.1 x.2 (subst (λ (y : MRow). IsBy t y.header.place.watermark) (sym x.3) by),
    refl,
  )
  latest_also t (s ∷ d) latest =
      let x = chain_also n m back also g h held_back held_also s d latest.0 in
      let by : IsBy t (watermark_at m x.0) =
      subst (λ (y : MRow). IsBy t y.header.place.watermark) (sym x.3) latest.1 in
      let greatest : (q : ℕ) (other : List ℕ) → IsChainBack m h (q ∷ other) → IsBy t (watermark_at m q)
      → IsUpTo (place_at m q) (place_at m x.0) = λ q other chain until.
      let y = chain_also m n also back h g held_also held_back q other chain in
      let until_there : IsBy t (watermark_at n y.0) =
      subst (λ (z : MRow). IsBy t z.header.place.watermark) (sym y.3) until in
      subst₂ (λ (a b : MRow). IsUpTo a.header.place b.header.place) y.3 (sym x.3)
      (latest.2 y.0 y.1 y.2 until_there) in
      (x.0 ∷ x.1, (x.2, by, greatest), ap₂ (λ (y : MRow) (ys : List MRow). y ∷ ys) x.3 x.4)

-- the rows of a chain from its end back
along_reverse : (m : List MRow) (c : List ℕ) → rows_along m (reverse c) ≡ reverse (rows_along m c)
along_reverse m [] = refl
along_reverse m (r ∷ c) =
    ap (rows_along m) (reverse-append (r ∷ []) c) ∙ map-append (row_at m) (reverse c) (r ∷ [])
    ∙ ap (λ (xs : List MRow). xs ++ row_at m r ∷ []) (along_reverse m c)
    ∙ sym (reverse-append (row_at m r ∷ []) (rows_along m c))

-- latest chains are of the same rows
pub chains_are_of : ChainsAreOfRows
chains_are_of m n h g t c d ok range listed held a b =
    let also = are_also m n (λ x. (listed x).0) in
    let back = are_also n m (λ x. (listed x).1) in
    let x = latest_also m n also back h g (λ y. (held y).0) (λ y. (held y).1) t (reverse d) b in
    let turned : rows_along m (reverse c) ≡ rows_along n (reverse d) =
    ap (rows_along m) (latest_same m h ok range t (reverse c) x.0 a x.1) ∙ x.2 in
    sym (reverse-reverse (rows_along m c))
    ∙ ap reverse (sym (along_reverse m c) ∙ turned ∙ along_reverse n d)
    ∙ reverse-reverse (rows_along n d)
