-- A new store stands for its manifest; and what a manifest and arrivals leave.
use Rattle.std.proofs.Common.{◌≡◌, ℕ, ℤ, Bool, true, false, cond, List, [], ◌∷◌, map, Option, None}
use Rattle.std.proofs.Common.{refl, sym, ap, subst, ◌∙◌, arith, is_some, true≢false}
use Rattle.std.specs.FinSet as set
use Rattle.std.specs.Ordering.{nat_cmp}
use Rattle.std.proofs.lemmas.Option.{none-some}
use Rattle.sha2.specs.Sha256.{sha256}
use Rattle.esc_tables.specs.DepositValue.{DepositValue}
use Rattle.esc_tables.specs.Reading.{reading}
use Rattle.esc_manifest.specs.declared.row.MRow.{MRow}
use Rattle.esc_chain.specs.Chain.{Rows, IsChainBack, IsLatestChainAt}
use Rattle.esc_apply.specs.Images.{chain_state}
use Rattle.esc_apply.specs.ChainLaws.{empty-chain}
use Rattle.esc_store.specs.StoreState.{fresh}
use Rattle.esc_events.specs.ArrivalValue.{ArrivalValue}
use Rattle.esc_events.specs.Events.{Coming, union, moment_after, last_moment, manifest_then}
use Rattle.esc_events.specs.Events.EventValue.{listed, arrived}
use Rattle.esc_events.specs.Assessment.{row_with_digest}
use Rattle.esc_events.specs.Receipts.{distinct, receipts_after}
use Rattle.esc_events.specs.StateAfter.{rows_of_arrivals, kept_arrivals, held_body, IsStateAfter}
use Rattle.esc_desk.proofs.EventLemmas.{union_then, comings_then}
use Rattle.esc_desk.proofs.Moving.{chain_of}
use Rattle.esc_desk.proofs.MovingLemmas.{same_deposits}
use Rattle.esc_desk.specs.Laws.{AreLeftByArrivals, came_with}
use Rattle.esc_desk.proofs.Counting.{counted_then}

abbrev none_held : Rows
none_held = set.from_list []

-- where no row is held there is no chain
no_chain : (m : List MRow) (r : ℕ) (rest : List ℕ) → IsChainBack m none_held (r ∷ rest) → ⊥
no_chain m r rest is = absurd (true≢false (sym (sym (set.contains-empty nat_cmp r) ∙ is.0.held)))

none_either_way : {X : Type 0} {none : Option X} (b : Bool) → cond b none none ≡ none
none_either_way true = refl
none_either_way false = refl

-- a new store stands for its manifest alone
pub stands_at_first : (m : List MRow) → IsStateAfter sha256 reading (listed m ∷ []) (fresh m)
stands_at_first m = record {
  books = record {
    listed = sym (union_then m []);
    receipts = refl;
    bodies = λ apart r. refl;
    parked = λ apart d. sym (none_either_way (is_some (row_with_digest (union (listed m ∷ [])) d)));
    moment = refl;
    came = λ r body is. absurd (none-some _ is);
    waits = λ d body is. absurd (none-some _ is);
    told = λ r any. absurd (omega (arith, any.2));
    held_told = λ r some. absurd (true≢false (sym some));
    parked_told = λ d some. absurd (true≢false (sym some));
  };
  held = none_held;
  have_bodies = λ r. set.contains-empty nat_cmp r;
  chain = λ r rest is by. no_chain m r rest is;
  registry = empty-chain;
}

-- ---- a manifest, and then arrivals

arrivals_set_none : (l : List ArrivalValue) → moment_after None (map arrived l) ≡ None
arrivals_set_none [] = refl
arrivals_set_none (a ∷ l) = arrivals_set_none l

no_moment : (m : List MRow) (l : List ArrivalValue) → last_moment (manifest_then m l) ≡ None
no_moment m l = arrivals_set_none l

-- what a manifest and arrivals leave, whatever their order
pub left_by_arrivals : AreLeftByArrivals
left_by_arrivals m l k stood apart =
    let e = manifest_then m l in
    let rows : List MRow → List Coming → Rows = λ n cs. set.from_list (rows_of_arrivals sha256 reading n cs) in
    let deposits = same_deposits k.bodies (held_body sha256 reading e) (stood.books.bodies apart) k.steps in
    record {
      listed = stood.books.listed ∙ union_then m l;
      receipts = stood.books.receipts ∙ ap (λ (cs : List Coming). receipts_after
          sha256 reading [] (distinct sha256 reading cs)) (comings_then m l);
      chain =
          subst (λ (t : Option ℤ). IsLatestChainAt m (rows m (came_with m l)) t k.steps) (no_moment m l)
          (subst (λ (cs : List Coming). IsLatestChainAt m (rows m cs) (last_moment e) k.steps) (counted_then m l)
          (subst (λ (n : List MRow). IsLatestChainAt n (rows n (kept_arrivals sha256 reading e))
          (last_moment e) k.steps) (union_then m l)
          (chain_of e k stood apart)));
      registry = stood.registry ∙ ap (λ (ds : List DepositValue). chain_state ds) deposits;
    }
