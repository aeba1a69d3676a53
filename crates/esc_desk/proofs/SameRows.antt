-- Two lists of events by which the same rows are listed and held leave the same tables, in whatever
-- order the rows were listed.
use Rattle.std.specs.List.{AllByRecursion}
use Rattle.std.proofs.Common.{◌≡◌, ℕ, ℤ, true, List, [], ◌∷◌, ◌++◌, reverse, Option, is_some}
use Rattle.std.proofs.Common.{refl, sym, ap, ap₂, subst, ◌∙◌}
use Rattle.std.proofs.lemmas.List.{reverse-append, reverse-reverse}
use Rattle.std.proofs.lemmas.List.Elements.{All-from_recursion, recursion_from_All, All-push}
use Rattle.sha2.specs.Sha256.{sha256}
use Rattle.esc_tables.specs.DepositValue.{DepositValue}
use Rattle.esc_tables.specs.Reading.{reading}
use Rattle.esc_manifest.specs.declared.row.MRow.{MRow}
use Rattle.esc_manifest.specs.ManifestRows.{row_at}
use Rattle.esc_chain.specs.Chain.{Rows, IsHeld, LeadsBack, IsLatestBackAt, IsLatestChainAt}
use Rattle.esc_chain.specs.Laws.{rows_along, ChainsAreOfRows}
use Rattle.esc_apply.specs.Images.{chain_state}
use Rattle.esc_events.specs.Events.{EventValue, union, last_moment}
use Rattle.esc_events.specs.StateAfter.{deposit_of, deposits_of, held_rows, held_body}
use Rattle.esc_desk.proofs.Moving.{chain_of}
use Rattle.esc_desk.proofs.MovingLemmas.{contains_held, same_deposits}
use Rattle.esc_desk.specs.Laws.{HoldTheSameRows, SameRowsSameTables}
use Rattle.esc_desk.proofs.WalkSteps.{held_in_range}
use Rattle.esc_desk.proofs.SameHeld.{same_body}

-- ---- the rows of a chain are held

leads_held : (m : List MRow) (h : Rows) (r : ℕ) (c : List ℕ) → LeadsBack m h r c → AllByRecursion (IsHeld h) c
leads_held m h r [] leads = tt
leads_held m h r (s ∷ c) leads = (leads.1.held, leads_held m h s c leads.2)

back_held : (m : List MRow) (h : Rows) (t : Option ℤ) (c : List ℕ)
    → IsLatestBackAt m h t c → AllByRecursion (IsHeld h) c
back_held m h t [] latest = tt
back_held m h t (r ∷ c) latest = (latest.0.0.held, leads_held m h r c latest.0.1)

each_reverse : (P : ℕ → Type 0) (c : List ℕ) → AllByRecursion P c → AllByRecursion P (reverse c)
each_reverse P [] each = tt
each_reverse P (r ∷ c) each =
    let both : AllByRecursion P (reverse c ++ r ∷ []) = recursion_from_All P _ (All-push
    P (reverse c) r (All-from_recursion P (reverse c) (each_reverse P c each.1)) each.0) in
    subst (AllByRecursion P) (sym (reverse-append (r ∷ []) c)) both

chain_held : (m : List MRow) (h : Rows) (t : Option ℤ) (c : List ℕ)
    → IsLatestChainAt m h t c → AllByRecursion (IsHeld h) c
chain_held m h t c latest = subst (AllByRecursion (IsHeld h))
    (reverse-reverse c) (each_reverse (IsHeld h) (reverse c) (back_held m h t (reverse c) latest))

module _ {e f : List EventValue} (same : HoldTheSameRows e f) where
  abbrev held_e : ℕ → Type 0
  held_e r = IsHeld (held_rows sha256 reading e) r

  abbrev held_f : ℕ → Type 0
  held_f s = IsHeld (held_rows sha256 reading f) s

  -- the same body is held of a row, wherever each list has the row
  body_same : (r s : ℕ) → held_e r → held_f s → row_at (union e) r ≡ row_at (union f) s
      → held_body sha256 reading e r ≡ held_body sha256 reading f s
  body_same r s held other row = same_body e f same.apart r s (some ∙ sym others) (ap (λ (x : MRow). x.digest) row)
    where
      some : is_some (held_body sha256 reading e r) ≡ true
      some = sym (contains_held sha256 reading e r) ∙ held

      others : is_some (held_body sha256 reading f s) ≡ true
      others = sym (contains_held sha256 reading f s) ∙ other

  -- chains of the same rows have the same deposits
  deposits_same : (c d : List ℕ) → AllByRecursion (IsHeld (held_rows sha256 reading e)) c
      → AllByRecursion (IsHeld (held_rows sha256 reading f)) d
      → rows_along (union e) c ≡ rows_along (union f) d
      → deposits_of reading (held_body sha256 reading e) c ≡ deposits_of reading (held_body sha256 reading f) d
  deposits_same [] [] held others rows = refl
  deposits_same [] (s ∷ d) held others rows = absurd (cc)
  deposits_same (r ∷ c) [] held others rows = absurd (cc)
  deposits_same (r ∷ c) (s ∷ d) held others rows =
      let row : row_at (union e) r ≡ row_at (union f) s = cc in
      let rest : rows_along (union e) c ≡ rows_along (union f) d = cc in
      let first = ap (deposit_of reading) (body_same r s held.0 others.0 row) in
      ap₂ (λ (x : DepositValue) (xs : List DepositValue). x ∷ xs) first (deposits_same c d held.1 others.1 rest)

-- where the same rows are listed and held the tables are the same
pub same_tables : ChainsAreOfRows → SameRowsSameTables
same_tables law e f k l accepted same apart others stood other =
    let h = held_rows sha256 reading e in
    let g = held_rows sha256 reading f in
    let t = last_moment e in
    let at_e = chain_of e k stood apart in
    let at_f : IsLatestChainAt (union f) g t l.steps =
    subst (λ (u : Option ℤ). IsLatestChainAt (union f) g u l.steps) (sym same.moment) (chain_of f l other others) in
    let rows = law (union e)
    (union f) h g t k.steps l.steps accepted (held_in_range e) same.listed same.held at_e at_f in
    let deposits : deposits_of reading k.bodies k.steps ≡ deposits_of reading l.bodies l.steps =
    same_deposits k.bodies (held_body sha256 reading e) (stood.books.bodies apart) k.steps
    ∙ deposits_same same k.steps l.steps (chain_held (union e) h t k.steps at_e)
    (chain_held (union f) g t l.steps at_f) rows
    ∙ sym (same_deposits l.bodies (held_body sha256 reading f) (other.books.bodies others) l.steps) in
    record {
      chain =
          ap (λ (m : List MRow). rows_along m k.steps) stood.books.listed
          ∙ rows
          ∙ sym (ap (λ (m : List MRow). rows_along m l.steps) other.books.listed);
      registry = stood.registry ∙ ap (λ (ds : List DepositValue). chain_state ds) deposits ∙ sym other.registry;
    }
