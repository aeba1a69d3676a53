-- What an edit comes to by the events: the chain stays, or it moves by a plan.
use Rattle.std.proofs.Common.{◌≡◌, ◌+◌, ◌≤◌, ℕ, ℤ, true, List, length, [], ◌∷◌, ◌++◌}
use Rattle.std.proofs.Common.{Option, Some, None, IfSome, refl, sym, ap, subst, ◌∙◌, true≢false}
use Rattle.sha2.specs.Sha256.{sha256}
use Rattle.sqlite_trees.specs.declared.store.Store.{Ghosts}
use Rattle.esc_tables.specs.Reading.{reading}
use Rattle.esc_manifest.specs.declared.row.MRow.{MRow}
use Rattle.esc_chain.specs.Laws.{LatestChainsAtAreHeldRows}
use Rattle.esc_store.specs.StoreState.{StoreState, AreHeld, AreHeldBy}
use Rattle.esc_store.specs.ReplyValue.{ReceiptValue}
use Rattle.esc_store.specs.declared.books.TheConstants.{MOST_RECEIPTS}
use Rattle.esc_store.specs.declared.store.Store.{Store}
use Rattle.esc_store.specs.Representation.{Represents, StoreLeavesNoMore}
use Rattle.esc_events.specs.declared.cache.Cache.{Cache}
use Rattle.esc_events.specs.declared.plan.Plan.{Plan}
use Rattle.esc_events.specs.Events.{EventValue, union}
use Rattle.esc_events.specs.Cache.{IsCacheOf}
use Rattle.esc_events.specs.StateAfter.{IsStateAfter}
use Rattle.esc_events.specs.Works.{IsWorkOf, MentionsFew, no_work}
use Rattle.esc_desk.specs.declared.decision.Decision.{Decision}
use Rattle.esc_desk.specs.declared.desk.Desk.{Desk}
use Rattle.esc_desk.specs.declared.edit.Edit.{Edit}
use Rattle.esc_desk.specs.declared.edit.Listing.{Listing}
use Rattle.esc_desk.specs.declared.edit.Storing.{Storing}
use Rattle.esc_desk.specs.declared.edit.Storing.TheVariants.{Nothing, Hold, Park}
use Rattle.esc_desk.specs.Decisions.{IsDecided, cache_after, IsDone}
use Rattle.esc_desk.specs.Edits.{IsSoundPlan, IsCostIf, books_edited, chain_deposits, edited, is_empty}
use Rattle.esc_desk.proofs.EditSteps.{stays_put}
use Rattle.esc_desk.proofs.Moving.{IsMove, moved_from, move_stands, move_is_work, no_work_of}

module _ (r : Option ReceiptValue) (l : Option Listing) (b : Storing) (t : Option (Option ℤ)) where
  abbrev pub decision_by : Option Cache → Option Plan → Decision
  decision_by cache plan = record {
    edit = record {
      receipt = r;
      listing = l;
      body = b;
      moment = t;
      plan = plan;
    };
    cache = cache;
  }

  abbrev made_by : Option Plan → StoreState → StoreState
  made_by plan k = books_edited (decision_by None plan).edit k

  -- the chain moves by a plan, and these are the rows of which a body is held then
  pub decided_moved : (cache : Cache) → LatestChainsAtAreHeldRows → MentionsFew → {e : List EventValue}
      {x : EventValue} {k : StoreState} {plan : Plan} {more : List MRow} {rows : List ℕ}
      → IsSoundPlan plan → IsMove e x k (made_by (Some plan) k) more rows plan → cache.held_rows.items
      ≡ rows → AreHeldBy (made_by (Some plan) k).receipts cache.rows_with_receipt.items
      → IsDecided e x k (decision_by (Some cache) (Some plan))
  decided_moved cache law few {e = e} {x = x} {k = k} {plan = plan} {more = more} {rows = rows} sound is held told =
      let made = made_by (Some plan) k in
      record {
        moves = moved_from e k plan is.stood is.old;
        stands = move_stands law e x k made more rows plan is;
        knows = record {
          held = subst (AreHeld made.bodies) (sym held) is.held;
          told = told;
          chain = is.latest.are_steps;
        };
        works = move_is_work law few e x k made more rows plan is sound.few_old sound.few_new;
      }

  -- the chain stays
  pub decided_still : (cache : Option Cache) → {e : List EventValue} {x : EventValue} {k : StoreState}
      → IsStateAfter sha256 reading e k → IsStateAfter sha256 reading (e ++ x ∷ []) (made_by None k)
      → union (e ++ x ∷ []) ≡ union e
      → IfSome cache (IsCacheOf (made_by None k)) → IsDecided e x k (decision_by cache None)
  decided_still cache {e = e} {x = x} {k = k} stood stands same knows =
      let made = made_by None k in
      record {
        moves = tt;
        stands = stands;
        knows = knows;
        works = λ work none. subst (IsWorkOf e x) (sym none)
            (no_work_of e x k made stood stands same (stays_put (decision_by cache None).edit k).steps);
      }

-- ---- an edit that changes nothing

-- an edit has no part
pub record IsNone (edit : Edit) : Type 0 where
  pub receipt : edit.receipt ≡ None
  pub listing : edit.listing ≡ None
  pub body : edit.body ≡ Nothing
  pub moment : edit.moment ≡ None
  pub plan : edit.plan ≡ None

-- an empty edit has no part
pub is_none_of : (edit : Edit) → is_empty edit ≡ true → IsNone edit
is_none_of edit = by_parts edit.receipt edit.listing edit.body edit.moment edit.plan
  where
    by_parts : (r : Option ReceiptValue) (l : Option Listing) (b : Storing) (t : Option (Option ℤ)) (p : Option Plan)
        → is_empty (record { receipt = r; listing = l; body = b; moment = t; plan = p }) ≡ true
        → IsNone (record { receipt = r; listing = l; body = b; moment = t; plan = p })
    by_parts None None Nothing None None is =
        record { receipt = refl; listing = refl; body = refl; moment = refl; plan = refl }
    by_parts (Some r) l b t p is = absurd (true≢false (sym is))
    by_parts None (Some l) b t p is = absurd (true≢false (sym is))
    by_parts None None (Hold row body q) t p is = absurd (true≢false (sym is))
    by_parts None None (Park digest body) t p is = absurd (true≢false (sym is))
    by_parts None None Nothing (Some t) p is = absurd (true≢false (sym is))
    by_parts None None Nothing None (Some p) is = absurd (true≢false (sym is))

-- an edit without a part changes nothing
pub nothing_edited : (edit : Edit) (k : StoreState) → IsNone edit → edited edit k ≡ k
nothing_edited edit k is =
    ap (λ (x : Edit). edited x k)
    (λ i. record {
      receipt = is.receipt i;
      listing = is.listing i;
      body = is.body i;
      moment = is.moment i;
      plan = is.plan i;
    })

-- a decision that is empty: nothing is made
pub nothing_done : {S : Type 0} (g : Ghosts S) (old : Store S)
    (new : Desk S) {e : List EventValue} {x : EventValue} {k : StoreState} {d : Decision}
    → IsDecided e x k d → is_empty d.edit ≡ true → Represents g new.store k → new.cache ≡ d.cache
    → StoreLeavesNoMore g old new.store → IsDone g old new e x k d (0, no_work)
nothing_done g old new {e = e} {x = x} {k = k} {d = d} is empty stands cache leaves =
    let none = is_none_of d.edit empty in
    let same = nothing_edited d.edit k none in
    let knows = subst (λ (m : StoreState). IfSome d.cache (IsCacheOf m))
    same (subst (λ (p : Option Plan). IfSome (cache_after p d.cache) (IsCacheOf (edited d.edit k)))
    none.plan is.knows) in
    let cost = subst (λ (p : Option Plan). IsCostIf
    p (books_edited d.edit k).bodies (chain_deposits k) no_work) (sym none.plan) refl in
    record {
      serves = record {
        serves = record {
          kept = k;
          stands = stands;
          stands_for = subst (IsStateAfter sha256 reading (e ++ x ∷ [])) same is.stands;
        };
        remembers = subst (λ (o : Option Cache). IfSome o (IsCacheOf k)) (sym cache) knows;
      };
      works = is.works no_work cost;
      result = record {
        worked = cost;
        numbered = subst (λ (r : Option ReceiptValue). IfSome
            r (λ q. (0 ≡ length k.receipts + 1) × (0 ≤ MOST_RECEIPTS))) (sym none.receipt) tt;
      };
      left = λ some. absurd (true≢false (sym empty ∙ some));
      rests = λ empty. (refl, leaves);
    }
