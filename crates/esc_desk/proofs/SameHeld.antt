-- Two lists of events by which the same is held leave the same chain and tables.
use Rattle.std.proofs.Common.{◌≡◌, ℕ, ℤ, Bool, List, Option, Some, None, is_some, refl, sym, ap, subst}
use Rattle.std.proofs.Common.{◌∙◌, true≢false}
use Rattle.std.specs.List.{find}
use Rattle.std.specs.FinSet as set
use Rattle.sha2.specs.Sha256.{sha256}
use Rattle.esc_tables.specs.DepositValue.{DepositValue}
use Rattle.esc_tables.specs.Reading.{reading}
use Rattle.esc_manifest.specs.declared.row.MRow.{MRow}
use Rattle.esc_manifest.specs.ManifestRows.{row_at}
use Rattle.esc_chain.specs.Chain.{Rows, IsLatestChainAt}
use Rattle.esc_chain.specs.Laws.{OneLatestChainAt}
use Rattle.esc_apply.specs.Images.{chain_state}
use Rattle.esc_events.specs.Events.{EventValue, Coming, union, last_moment}
use Rattle.esc_events.specs.StateAfter.{arrived_body, kept_arrivals, holds_by, deposits_of, held_rows, held_body}
use Rattle.esc_desk.proofs.AmendingLemmas.{digest_is}
use Rattle.esc_desk.proofs.Members.{first_of}
use Rattle.esc_desk.proofs.Moving.{chain_of}
use Rattle.esc_desk.proofs.MovingLemmas.{contains_held, same_deposits}
use Rattle.esc_desk.specs.Laws.{TablesAreOfEvents, HoldTheSame, SameHeldSameKept, AreApart}
use Rattle.esc_desk.proofs.ReadLemmas.{same_content}
use Rattle.esc_desk.proofs.WalkSteps.{held_in_range}

-- the tables are those of the events
pub tables_are_of : TablesAreOfEvents
tables_are_of e k stood apart = record { latest = chain_of e k stood apart; content = same_content e k stood apart }

-- two searches that both find an arrival, or neither does, find the same body where the arrivals have the same
pub same_found : (o p : Option Coming) → is_some (arrived_body o) ≡ is_some (arrived_body p)
    → ((c d : Coming) → o ≡ Some c → p ≡ Some d → c.body ≡ d.body) → arrived_body o ≡ arrived_body p
same_found None None some same = refl
same_found None (Some d) some same = absurd (true≢false (sym some))
same_found (Some c) None some same = absurd (true≢false some)
same_found (Some c) (Some d) some same = ap Some (same c d refl refl)

-- rows with one digest have the same body, wherever each list has the row, if both have one or neither
pub same_body : (e f : List EventValue) → AreApart e f
    → (r s : ℕ) → is_some (held_body sha256 reading e r) ≡ is_some (held_body sha256 reading f s)
    → (row_at (union e) r).digest ≡ (row_at (union f) s).digest
    → held_body sha256 reading e r ≡ held_body sha256 reading f s
same_body e f apart r s some row = same_found (find in_e (kept_arrivals sha256 reading e))
    (find in_f (kept_arrivals sha256 reading f)) some bodies
  where
    in_e : Coming → Bool
    in_e = holds_by sha256 reading (union e) r

    in_f : Coming → Bool
    in_f = holds_by sha256 reading (union f) s

    bodies : (c d : Coming) → find in_e (kept_arrivals sha256 reading e) ≡ Some c
        → find in_f (kept_arrivals sha256 reading f) ≡ Some d → c.body ≡ d.body
    bodies c d here there =
        let a = first_of in_e (kept_arrivals sha256 reading e) c here in
        let b = first_of in_f (kept_arrivals sha256 reading f) d there in
        apart c d a.0 b.0 (digest_is sha256 reading (union e) r c a.1
        ∙ row ∙ sym (digest_is sha256 reading (union f) s d b.1))

module _ {e f : List EventValue} (same : HoldTheSame e f) where
  -- a body is held of the same rows
  some_same : (r : ℕ) → is_some (held_body sha256 reading e r) ≡ is_some (held_body sha256 reading f r)
  some_same r = sym (contains_held sha256 reading e r)
      ∙ ap (λ (h : Rows). set.contains h r) same.held ∙ contains_held sha256 reading f r

  -- the same body is held of each row
  body_same : (r : ℕ) → held_body sha256 reading e r ≡ held_body sha256 reading f r
  body_same r = same_body e f same.apart r r (some_same r) (ap (λ (m : List MRow). (row_at m r).digest) same.listed)

-- where the same is held the same is kept
pub same_kept : OneLatestChainAt → SameHeldSameKept
same_kept law e f k l accepted same apart others stood other =
    let h = held_rows sha256 reading e in
    let t = last_moment e in
    let bodies : (r : ℕ) → k.bodies r ≡ l.bodies r =
    λ r. stood.books.bodies apart r ∙ body_same same r ∙ sym (other.books.bodies others r) in
    let at_f = chain_of f l other others in
    let at_e : IsLatestChainAt (union e) h t l.steps =
    subst (λ (m : List MRow). IsLatestChainAt m h t l.steps) (sym same.listed)
    (subst (λ (g : Rows). IsLatestChainAt (union f) g t l.steps) (sym same.held)
    (subst (λ (u : Option ℤ). IsLatestChainAt (union f) (held_rows sha256 reading f) u l.steps)
    (sym same.moment) at_f)) in
    let steps : k.steps ≡ l.steps =
    law (union e) h h t k.steps l.steps accepted (held_in_range e)
    (λ r. (λ held. held, λ held. held)) (chain_of e k stood apart) at_e in
    let deposits = same_deposits k.bodies l.bodies bodies k.steps ∙ ap (deposits_of reading l.bodies) steps in
    record {
      listed = stood.books.listed ∙ same.listed ∙ sym other.books.listed;
      bodies = bodies;
      steps = steps;
      registry = stood.registry ∙ ap (λ (ds : List DepositValue). chain_state ds) deposits ∙ sym other.registry;
    }
