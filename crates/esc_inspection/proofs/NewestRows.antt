-- Where no later revision is awaited of a place in the chain, each row of the chain is the newest.
use Rattle.std.specs.List.{AllByRecursion, All, Contains, list_all}
use Rattle.std.proofs.Common.{◌≡◌, ◌⊎◌, inl, inr, ℕ, zero, suc, ◌<◌, ◌≤◌, ℤ, Bool, true}
use Rattle.std.proofs.Common.{false, not, ◌&&◌, List, [], ◌∷◌, ◌++◌, get_or, length, reverse}
use Rattle.std.proofs.Common.{Option, Some, None, is_some, refl, sym, ap, subst, ◌∙◌, arith, true≢false}
use Rattle.std.specs.FinSet as set
use Rattle.std.proofs.lemmas.Bool.{and_parts, not-true, cases_lt}
use Rattle.std.proofs.lemmas.List.{reverse-append, reverse-reverse, get_or_default}
use Rattle.std.proofs.lemmas.List.Elements.{All-from_recursion, recursion_from_All, All-push}
use Rattle.esc_envelope.specs.declared.place.Place.{Place}
use Rattle.esc_manifest.specs.declared.row.MRow.{MRow}
use Rattle.esc_manifest.specs.ManifestRows.{place_at, resend_at}
use Rattle.esc_manifest.specs.Accepted.{IsAccepted}
use Rattle.esc_chain.specs.declared.gap.GapLine.{GapLine}
use Rattle.esc_chain.specs.declared.gap.State.{State}
use Rattle.esc_chain.specs.declared.gap.State.TheVariants.{Missing, Blocked, Chain, Standing}
use Rattle.esc_chain.specs.Chain.{Rows, IsHeld, InRange, IsUsed, LeadsBack}
use Rattle.esc_chain.specs.Chain.{IsLatestBackAt, IsLatestChainAt}
use Rattle.esc_chain.specs.Gap.{AreGapLinesAt, IsGapLineAt, IsAmong, IsStateBeside, IsAwaited}
use Rattle.esc_chain.specs.Gap.{IsUsedResend, places_of}
use Rattle.esc_chain.specs.Laws.{OneLatestChainAt, HaveSameRows}
use Rattle.esc_acceptance.specs.Acceptance.{is_in_chain, is_outdated}

-- ---- each row of a chain is used, and a chain ends there

-- a used row, at which a chain ends
abbrev pub EndsAt : List MRow → Rows → ℕ → Type 0
EndsAt m h r = IsUsed m h r × ((rest : List ℕ) × LeadsBack m h r rest)

-- so is each row on the way back from a row
leads_end : (m : List MRow) (h : Rows) (r : ℕ) (c : List ℕ) → LeadsBack m h r c → AllByRecursion (EndsAt m h) c
leads_end m h r [] leads = tt
leads_end m h r (s ∷ c) leads = ((leads.1, (c, leads.2)), leads_end m h s c leads.2)

-- and each row of a latest chain that is listed from its end back
back_end : (m : List MRow) (h : Rows) (t : Option ℤ) (c : List ℕ)
    → IsLatestBackAt m h t c → AllByRecursion (EndsAt m h) c
back_end m h t [] latest = tt
back_end m h t (r ∷ c) latest = ((latest.0.0, (c, latest.0.1)), leads_end m h r c latest.0.1)

-- what holds of each row of a chain holds from its other end on
each_reverse : (P : ℕ → Type 0) (c : List ℕ) → AllByRecursion P c → AllByRecursion P (reverse c)
each_reverse P [] each = tt
each_reverse P (r ∷ c) each =
    let both : AllByRecursion P (reverse c ++ r ∷ []) = recursion_from_All P _ (All-push
    P (reverse c) r (All-from_recursion P (reverse c) (each_reverse P c each.1)) each.0) in
    subst (AllByRecursion P) (sym (reverse-append (r ∷ []) c)) both

-- each row of a latest chain, from its Full on, is such a row
chain_ends : (m : List MRow) (h : Rows) (t : Option ℤ) (c : List ℕ)
    → IsLatestChainAt m h t c → All (EndsAt m h) c
chain_ends m h t c latest = All-from_recursion (EndsAt m h) c (subst (AllByRecursion (EndsAt m h))
    (reverse-reverse c) (each_reverse (EndsAt m h) (reverse c) (back_end m h t (reverse c) latest)))

-- ---- the line of a place

-- a place of the lines has a line, of which holds what holds of each
line_of : (P : GapLine → Type 0) (lines : List GapLine) (p : Place) → All P lines
    → list_all (λ g. not (is_outdated g)) lines ≡ true → Contains (places_of lines) p
    → (g : GapLine) × (g.place ≡ p) × P g × (is_outdated g ≡ false)
line_of P [] p all passes (k, below, is) = absurd (omega (arith, below))
line_of P (g ∷ lines) p all passes (zero, below, is) =
    (g, is, all 0 g (omega arith), not-true (is_outdated g) (and_parts _ _ passes).0)
line_of P (g ∷ lines) p all passes (suc k, below, is) =
    line_of P lines p (λ i d lt. all (suc i) d (omega (arith, lt))) (and_parts _ _ passes).1
    (k, (omega (arith, below)), is)

-- nothing is awaited where the place is in the chain
none_awaited : (s : State) (awaited : Option ℕ) → (is_in_chain s && is_some awaited) ≡ false
    → is_in_chain s ≡ true → awaited ≡ None
none_awaited s None fails chain = refl
none_awaited s (Some n) fails chain =
    absurd (true≢false (sym (ap (λ b. b && true) chain) ∙ fails))

module _ (m : List MRow) (h : Rows) (c : List ℕ) where
  -- a place in the chain, whose row is used, is told to be there
  in_chain : (r : ℕ) (s : State) → EndsAt m h r → IsAmong m c (place_at m r)
      → IsStateBeside m h c (place_at m r) s → is_in_chain s ≡ true
  in_chain r Missing end among none = absurd (none r end.0.held refl)
  in_chain r Blocked end among blocked = absurd (blocked.1 (r, (end.0, refl), end.1))
  in_chain r Chain end among is = refl
  in_chain r Standing end among standing = absurd (standing.1 among)

  -- a row that isn't held and is listed is no later revision than the used one
  no_later : (r q : ℕ) (used : Option ℕ) → IsUsed m h r → IsUsedResend m h (place_at m r) used
      → IsAwaited m h (place_at m r) used None → q < length m → place_at m q ≡ place_at m r
      → (IsHeld h q → ⊥) → resend_at m q ≤ resend_at m r
  no_later r q None row none awaited within same unheld = absurd (none r row.held refl)
  no_later r q (Some n) row (u, of, is) awaited within same unheld =
      by_order (cases_lt n (resend_at m q))
    where
      by_order : (n < resend_at m q) ⊎ (resend_at m q ≤ n) → resend_at m q ≤ resend_at m r
      by_order (inl over) = absurd (awaited q (within, same, unheld, over))
      by_order (inr le) =
          let up : resend_at m u ≤ resend_at m r = row.greatest u of.0.held of.1 in
          omega (arith, up, le, is)

  -- no listed revision is later than a used one, if none is awaited
  newest_at : (r q : ℕ) → IsUsed m h r
      → ((IsHeld h q → ⊥) → resend_at m q ≤ resend_at m r)
      → place_at m q ≡ place_at m r → resend_at m q ≤ resend_at m r
  newest_at r q row unheld same = by_held (set.contains h q) refl
    where
      by_held : (b : Bool) → set.contains h q ≡ b → resend_at m q ≤ resend_at m r
      by_held true is = row.greatest q is same
      by_held false is = unheld (λ held. true≢false (sym held ∙ is))

-- each row of the latest chain is the newest revision of its place that is listed, if by the lines on
-- gaps none is awaited; the chain and the lines may be of two sets with the same rows
pub chain_is_newest : OneLatestChainAt → (m : List MRow) (g h : Rows) (t : Option ℤ) (c : List ℕ)
    (lines : List GapLine) → IsAccepted m → InRange m g → HaveSameRows g h → IsLatestChainAt m g t c
    → AreGapLinesAt m h t lines → list_all (λ g. not (is_outdated g)) lines ≡ true
    → All (λ (r : ℕ). (q : ℕ) → q < length m → place_at m q ≡ place_at m r
    → resend_at m q ≤ resend_at m r) c
chain_is_newest law m g h t c lines accepted range same_rows latest gaps passes k d below =
    λ q within same. newest_at m h c r q end.0 (λ unheld. no_later m h c r q line.0.used end.0 used awaited
    within same unheld) same
  where
    r : ℕ
    r = get_or c k d

    held_row : IsHeld g r
    held_row = (chain_ends m g t c latest k d below).0.held

    line : (x : GapLine) × (x.place ≡ place_at m r) × IsGapLineAt m h t x × (is_outdated x ≡ false)
    line = line_of (IsGapLineAt m h t) lines (place_at m r) gaps.told passes
        (gaps.all (place_at m r) (r, range r held_row, refl))

    one : line.2.state.0 ≡ c
    one = sym (law m g h t c line.2.state.0 accepted range same_rows latest line.2.state.1)

    end : EndsAt m h r
    end = chain_ends m h t c (subst (IsLatestChainAt m h t) one line.2.state.1) k d below

    used : IsUsedResend m h (place_at m r) line.0.used
    used = subst (λ (p : Place). IsUsedResend m h p line.0.used) line.1 line.2.used

    state : IsStateBeside m h c (place_at m r) line.0.state
    state = subst (λ (p : Place). IsStateBeside m h c p line.0.state) line.1
        (subst (λ (x : List ℕ). IsStateBeside m h x line.0.place line.0.state) one line.2.state.2)

    among : IsAmong m c (place_at m r)
    among = (k, below, ap (place_at m) (get_or_default c k 0 d below))

    awaited : IsAwaited m h (place_at m r) line.0.used None
    awaited = subst (λ (p : Place). IsAwaited m h p line.0.used None) line.1
        (subst (λ (o : Option ℕ). IsAwaited m h line.0.place line.0.used o)
        (none_awaited line.0.state line.0.awaited line.3
        (in_chain m h c r line.0.state end among state)) line.2.awaited)
