-- A manifest is taken in: from what is kept before it to what is kept after it, by a plan.
use Rattle.std.proofs.Common.{◌≡◌, ℕ, ℤ, ◌<◌, Bool, true, cond, List, [], ◌∷◌, ◌++◌, length}
use Rattle.std.proofs.Common.{nat_lt, Option, Some, None, sym, ap, ap₂, subst, ◌∙◌, arith}
use Rattle.std.proofs.Common.{length-append}
use Rattle.std.proofs.lemmas.Bool.Decides.{nat_tests}
use Rattle.sha2.specs.Sha256.{sha256}
use Rattle.esc_tables.specs.Reading.{reading}
use Rattle.esc_manifest.specs.declared.row.MRow.{MRow}
use Rattle.esc_manifest.specs.ManifestRows.{row_at}
use Rattle.esc_manifest.specs.Accepted.{IsAccepted}
use Rattle.esc_manifest.specs.Extension.{new_rows, extended}
use Rattle.esc_chain.specs.Laws.{LatestChainsAtAreHeldRows}
use Rattle.esc_store.specs.StoreState.{StoreState, AreHeld, AreHeldBy, kept_chain, with_listed}
use Rattle.esc_store.specs.ReplyValue.{ReceiptValue}
use Rattle.esc_events.specs.declared.cache.Cache.{Cache}
use Rattle.esc_events.specs.declared.plan.Plan.{Plan}
use Rattle.esc_events.specs.Amended.{judged, adopted_rows, dropped_rows, amended_bodies, amended_kept}
use Rattle.esc_events.specs.Amended.{with_all_adopted, with_all_dropped}
use Rattle.esc_events.specs.Events.{EventValue, union}
use Rattle.esc_events.specs.Events.EventValue.{listed}
use Rattle.esc_events.specs.Cache.{IsCacheOf}
use Rattle.esc_events.specs.Plans.{AreLatestSteps}
use Rattle.esc_events.specs.StateAfter.{IsStateAfter, AreBooks}
use Rattle.esc_events.specs.Works.{MentionsFew}
use Rattle.esc_desk.proofs.AmendedBooks.{kept_bodies, books_amended}
use Rattle.esc_desk.proofs.AmendingKept.{StayBesides, rest_stays}
use Rattle.esc_desk.proofs.Deciding.{decided_moved, decision_by}
use Rattle.esc_desk.proofs.Moving.{IsMove}
use Rattle.esc_desk.proofs.MovingLemmas.{held_within}
use Rattle.esc_desk.specs.declared.judging.Judged.{Judged}
use Rattle.esc_desk.specs.declared.edit.Storing.TheVariants.{Nothing}
use Rattle.esc_desk.specs.Decisions.{IsDecided}
use Rattle.esc_desk.specs.Edits.{IsSoundPlan}
use Rattle.esc_desk.specs.Judging.{AreJudged}
use Rattle.esc_desk.proofs.AmendedRows.{held_with_adopted}

-- ---- what is known when the rows of a union are to be listed: the store stands for e, n is the union
-- of its rows and more, this was
-- judged of the parked bodies, these are the rows of which a body is held then, and the plan goes to
-- the latest steps of those
pub record IsListing (e : List EventValue) (k : StoreState)
    (more n : List MRow) (cache : Cache) (told : Judged) (rows : List ℕ) (plan : Plan) : Type 0 where
  pub stood : IsStateAfter sha256 reading e k
  pub is_union : n ≡ extended k.listed more
  pub first : IsAccepted k.listed
  pub accepted : IsAccepted n
  pub knows : IsCacheOf k cache
  pub are_judged : AreJudged n k.parked (length k.listed) told
  pub are_held : rows ≡ cache.held_rows.items ++ told.adopted.items
  pub latest : AreLatestSteps n rows k.moment plan.new.items
  pub old : plan.old.items ≡ kept_chain k

module _ {e : List EventValue} {k : StoreState} {more n : List MRow} {cache : Cache}
    {told : Judged} {rows : List ℕ} {plan : Plan} (is : IsListing e k more n cache told rows plan) where
  abbrev from : ℕ
  from = length k.listed

  abbrev l : StoreState
  l = amended_kept k more

  few : (r : ℕ) (body : List ℕ) → k.bodies r ≡ Some body → r < from
  few r body there =
      let came = is.stood.books.came r body there in
      subst (λ (m : List MRow). r < length m)
      (sym is.stood.books.listed) (held_within sha256 reading (union e) r came.arrival came.holds)

  accepted_then : IsAccepted (extended k.listed more)
  accepted_then = subst IsAccepted is.is_union is.accepted

  stays : StayBesides (with_listed k (extended k.listed more)) l
  stays = rest_stays (extended k.listed more)
      accepted_then k from (omega (arith, length-append k.listed (new_rows k.listed more)))

  same : (r : ℕ) → amended_bodies n k.parked from k.bodies r ≡ l.bodies r
  same r = ap (λ (m : List MRow). amended_bodies m k.parked from k.bodies r) is.is_union
      ∙ sym (kept_bodies k more accepted_then few r)

  books : AreBooks sha256 reading (e ++ listed more ∷ []) l
  books = books_amended e k more is.stood.books (subst IsAccepted is.stood.books.listed is.first)
      (subst (λ (m : List MRow). IsAccepted (extended m more)) is.stood.books.listed accepted_then)

  keeps : (r : ℕ) (body : List ℕ) → k.bodies r ≡ Some body → l.bodies r ≡ Some body
  keeps r body there =
      let lt = few r body there in
      let old : nat_lt r from ≡ true = grind (arith, nat_tests, lt) in
      sym (same r) ∙ ap (λ (t : Bool). cond t (k.bodies r)
      (cond (nat_lt r (length n)) (judged n r (k.parked (row_at n r).digest)) None)) old ∙ there

  held : AreHeld l.bodies rows
  held =
      subst (AreHeld l.bodies) (ap (λ (xs : List ℕ). cache.held_rows.items ++ xs)
      (sym is.are_judged.adopted) ∙ sym is.are_held)
      (subst (λ (b : ℕ → Option (List ℕ)). AreHeld b (cache.held_rows.items ++ adopted_rows n k.parked
      from)) (λ i r. same r i) (held_with_adopted n k few cache.held_rows.items is.knows.held))

  latest : AreLatestSteps l.listed rows l.moment plan.new.items
  latest =
      subst (λ (t : Option ℤ). AreLatestSteps l.listed rows t plan.new.items) (sym stays.2)
      (subst (λ (m : List MRow). AreLatestSteps m rows k.moment plan.new.items)
      (is.is_union ∙ sym stays.0) is.latest)

  -- what a change makes that lists the rows, and then adopts and drops the bodies as they were judged
  amend_made : with_all_dropped n (with_all_adopted n (with_listed k n) told.adopted.items) told.dropped.items ≡ l
  amend_made =
      ap₂ (λ (a d : List ℕ). with_all_dropped n (with_all_adopted n (with_listed k n) a) d)
      is.are_judged.adopted is.are_judged.dropped
      ∙ ap (λ (m : List MRow). with_all_dropped m (with_all_adopted m (with_listed k m)
      (adopted_rows m k.parked from)) (dropped_rows m k.parked from)) is.is_union

  amend_move : IsMove e (listed more) k l (new_rows k.listed more) rows plan
  amend_move = record {
    stood = is.stood;
    books = books;
    begins = stays.0;
    keeps = keeps;
    held = held;
    latest = latest;
    old = is.old;
  }

  pub decided_amended : LatestChainsAtAreHeldRows → MentionsFew → IsSoundPlan plan → (then : Cache)
      → then.held_rows.items ≡ rows → then.rows_with_receipt.items ≡ cache.rows_with_receipt.items
      → IsDecided e (listed more) k (decision_by
      None (Some (record { union = n; judged = told })) Nothing None (Some then) (Some plan))
  decided_amended law few sound then held_is told_is =
      decided_moved None (Some (record { union = n; judged = told })) Nothing None then law few sound
      (subst (λ (m : StoreState). IsMove e (listed more) k m (new_rows k.listed more) rows plan)
      (sym amend_made) amend_move) held_is
      (subst (λ (m : StoreState). AreHeldBy m.receipts then.rows_with_receipt.items) (sym amend_made)
      (subst (λ (rs : List ReceiptValue). AreHeldBy rs then.rows_with_receipt.items)
      (sym stays.1) (subst (AreHeldBy k.receipts) (sym told_is) is.knows.told)))
