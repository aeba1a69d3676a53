-- What an arrival comes to, with a receipt or without one: nothing is stored, or its body is parked or held.
use Rattle.std.proofs.Common.{◌≡◌, inl, inr, ℕ, ℤ, true, false, List, [], ◌∷◌, ◌++◌, Option, Some}
use Rattle.std.proofs.Common.{None, IsSome, is_none, not, refl, sym, ap, ap₂, subst, ◌∙◌, true≢false}
use Rattle.std.proofs.Common.{map}
use Rattle.std.proofs.lemmas.Option.{same_Some}
use Rattle.sha2.specs.Sha256.{sha256}
use Rattle.esc_tables.specs.Reading.{reading}
use Rattle.esc_manifest.specs.declared.row.MRow.{MRow}
use Rattle.esc_apply.specs.declared.moves.Work.{Work}
use Rattle.esc_store.specs.StoreState.{StoreState, AreHeld, AreHeldBy, body_put, kept_chain, step_at}
use Rattle.esc_store.specs.StoreState.{with_body, with_parked}
use Rattle.esc_store.specs.ReplyValue.{ReceiptValue, ReplyValue}
use Rattle.esc_events.specs.declared.assessment.Assessment.{Assessment}
use Rattle.esc_events.specs.declared.assessment.Assessment.TheVariants.{Unlisted, Unreadable, Differing, Holding}
use Rattle.esc_events.specs.declared.cache.Cache.{Cache}
use Rattle.esc_events.specs.declared.plan.Plan.{Plan}
use Rattle.esc_events.specs.ArrivalValue.{ArrivalValue}
use Rattle.esc_events.specs.Events.{EventValue}
use Rattle.esc_events.specs.Events.EventValue.{arrived}
use Rattle.esc_events.specs.Assessment.{held_row}
use Rattle.esc_events.specs.HeldLaws.{holding_listed}
use Rattle.esc_events.specs.Cache.{IsCacheOf}
use Rattle.esc_events.specs.Plans.{AreLatestSteps}
use Rattle.esc_events.specs.StateAfter.{AreBooks}
use Rattle.esc_events.specs.Taking.{IsAgain}
use Rattle.esc_events.specs.Works.{IsIdle}
use Rattle.esc_desk.specs.declared.edit.Edit.{Edit}
use Rattle.esc_desk.specs.declared.edit.Storing.{Storing}
use Rattle.esc_desk.specs.declared.edit.Storing.TheVariants.{Nothing}
use Rattle.esc_desk.specs.declared.receiving.Received.{Received}
use Rattle.esc_desk.specs.Again.{is_missing}
use Rattle.esc_desk.specs.Decisions.{IsArriving, IsDecidedArrival, still_by}
use Rattle.esc_desk.specs.Edits.{is_empty, is_nothing, receipted, stored}
use Rattle.esc_desk.specs.Receiving.{IsReceived}
use Rattle.esc_desk.proofs.Arriving.{noted_new, noted_again, books_there, books_parked, books_held}
use Rattle.esc_desk.proofs.ComingAgain.{nothing_listed, nothing_parked, nothing_refused}
use Rattle.esc_desk.proofs.Deciding.{decided_still, is_none_of}
use Rattle.esc_desk.proofs.EventLemmas.{union-arrived}
use Rattle.esc_desk.proofs.Holding.{move_to}
use Rattle.esc_desk.proofs.Likeness.{AddsNothing}
use Rattle.esc_desk.proofs.Moving.{IsMove, stands_still}
use Rattle.esc_desk.proofs.Working.{idle_by}

-- a body that is held or parked is something
pub stores_something : (edit : Edit) → is_nothing edit.body ≡ false → is_empty edit ≡ true → ⊥
stores_something edit some is = true≢false (sym (ap is_nothing (is_none_of edit is).body) ∙ some)

some_where : (o : Option (List ℕ)) → is_none o ≡ false → IsSome o
some_where None there = absurd (true≢false there)
some_where (Some body) there = refl

-- ---- what stays beside the receipts

-- a store differs from another by a receipt at most
pub record IsBesides (r : Option ReceiptValue) (k later : StoreState) : Type 0 where
  pub listed : later.listed ≡ k.listed
  pub receipts : later.receipts ≡ (receipted r k).receipts
  pub bodies : later.bodies ≡ k.bodies
  pub moment : later.moment ≡ k.moment
  pub steps : later.steps ≡ k.steps
  pub registry : later.registry ≡ k.registry

receipted_besides : (r : Option ReceiptValue) (k : StoreState) → IsBesides r k (receipted r k)
receipted_besides None k = record {
  listed = refl;
  receipts = refl;
  bodies = refl;
  moment = refl;
  steps = refl;
  registry = refl;
}
receipted_besides (Some r) k = record {
  listed = refl;
  receipts = refl;
  bodies = refl;
  moment = refl;
  steps = refl;
  registry = refl;
}

receipted_is : (r : Option ReceiptValue) (k : StoreState)
    → receipted r k ≡ record k { receipts = (receipted r k).receipts }
receipted_is None k = refl
receipted_is (Some r) k = refl

there_not_missing : (bodies : ℕ → Option (List ℕ)) (parked : List ℕ → Option (List ℕ))
    (d : List ℕ) (found : Assessment) → (found ≡ Unlisted → IsSome (parked d))
    → ((q : ℕ) → held_row found ≡ Some q → IsSome (bodies q)) → is_missing bodies parked d found ≡ false
there_not_missing bodies parked key Unlisted waits held = ap not (waits refl)
there_not_missing bodies parked key (Unreadable r n) waits held = refl
there_not_missing bodies parked key (Differing r) waits held = refl
there_not_missing bodies parked key (Holding r d) waits held = ap not (held r refl)

module _ {e : List EventValue} {a : ArrivalValue} {k : StoreState} {found : Assessment}
    {cache : Cache} {receipt : Option ReceiptValue} (is : IsArriving e a k found cache receipt) where
  still : (b : Storing) → IsBesides receipt k (stored b (receipted receipt k))
      → AreBooks sha256 reading (e ++ arrived a ∷ []) (stored b (receipted receipt k))
      → (is_empty (still_by receipt (Some cache) b).edit ≡ true
      → is_missing k.bodies k.parked (sha256 a.body) found ≡ false)
      → IsDecidedArrival e a k found (still_by receipt (Some cache) b)
  still b besides books there =
      let made = stored b (receipted receipt k) in
      let stands = stands_still e (e ++ arrived a ∷ []) k made
      is.stood books besides.listed besides.bodies besides.moment besides.steps besides.registry in
      record {
        decided = decided_still receipt None b None (Some cache) is.stood stands (union-arrived e a) (record {
          held = subst (λ (bodies : ℕ → Option (List ℕ)). AreHeld bodies cache.held_rows.items)
              (sym besides.bodies) is.held;
          told = subst (λ (rs : List ReceiptValue). AreHeldBy rs cache.rows_with_receipt.items)
              (sym besides.receipts) is.told;
          chain = is.chain ∙ ap₂ (λ (m : List MRow) (steps : List ℕ). map (step_at m) steps)
              (sym besides.listed) (sym besides.steps);
        });
        idle = λ work none. λ apart same. none;
        there = there;
      }

  -- nothing is stored: the body is there, or it is no row's deposit
  pub decided_there : (found ≡ Unlisted → IsSome (k.parked (sha256 a.body)))
      → ((q : ℕ) → held_row found ≡ Some q → IsSome (k.bodies q))
      → IsDecidedArrival e a k found (still_by receipt (Some cache) Nothing)
  decided_there waits held = still Nothing (receipted_besides receipt k) (is.there waits held)
      (λ empty. there_not_missing k.bodies k.parked (sha256 a.body) found waits held)

  -- the body is parked
  pub decided_parked : (b : Storing) → is_nothing b ≡ false → IsBesides receipt k (stored b (receipted receipt k))
      → AreBooks sha256 reading (e ++ arrived a ∷ []) (stored b (receipted receipt k))
      → IsDecidedArrival e a k found (still_by receipt (Some cache) b)
  decided_parked b some besides books = still b besides
      books (λ empty. absurd (stores_something (still_by receipt (Some cache) b).edit some empty))

  pub parked_besides : (d body : List ℕ) → IsBesides receipt k (with_parked (receipted receipt k) d (Some body))
  parked_besides d body =
      let at = receipted_besides receipt k in
      record {
        listed = at.listed;
        receipts = refl;
        bodies = at.bodies;
        moment = at.moment;
        steps = at.steps;
        registry = at.registry;
      }

  -- ---- the body is held for a row that has none
  module _ (row : ℕ) (none : k.bodies row ≡ None) (books : AreBooks sha256 reading (e ++ arrived a ∷ [])
      (with_body (receipted receipt k) row a.body)) where
    books_late : AreBooks sha256 reading (e ++ arrived a ∷ [])
        (with_body (record k { receipts = (receipted receipt k).receipts }) row a.body)
    books_late = subst (λ (m : StoreState). AreBooks sha256 reading (e ++ arrived a ∷ [])
        (with_body m row a.body)) (receipted_is receipt k) books

    pub late_move : {rows : List ℕ} {plan : Plan} {moment : Option ℤ}
        → AreHeld (body_put k.bodies row a.body) rows → moment ≡ k.moment
        → AreLatestSteps k.listed rows moment plan.new.items → plan.old.items ≡ kept_chain k
        → IsMove e (arrived a) k (with_body (receipted receipt k) row a.body) [] rows plan
    late_move {rows = rows} {plan = plan} held moment latest old =
        subst (λ (m : StoreState). IsMove e (arrived a) k (with_body m row a.body) [] rows plan)
        (sym (receipted_is receipt k))
        (move_to e a k row (receipted receipt k).receipts none is.stood books_late held refl moment latest old)

    pub late_idle : (work : Work) → IsIdle e (arrived a) work
    late_idle = idle_by e a k row is.stood none (λ apart. books_late.bodies apart row)

-- ---- a new arrival, and one that comes again

-- a new arrival is decided with its receipt
pub arriving_new : {e : List EventValue} {a : ArrivalValue} {k : StoreState} {before : Cache}
    {r : Received} → IsReceived e a k before r → IsArriving e a k r.found r.cache (Some r.receipt)
arriving_new {k = k} got =
    let is = got.is_new in
    let noted = noted_new is in
    record {
      stood = is.stood;
      found_is = is.found_is;
      held = subst (AreHeld k.bodies) (sym (ap (λ v. v.items) got.held)) is.cache_is.held;
      told = got.told;
      chain = ap (λ v. v.items) got.chain ∙ is.cache_is.chain;
      there = books_there noted;
      parked = λ unlisted free. books_parked noted unlisted free.0;
      late = books_held noted;
    }

-- one that comes again is decided without a receipt
pub arriving_again : {e : List EventValue} {a : ArrivalValue} {k : StoreState} {found : Assessment}
    {cache : Cache} {reply : ReplyValue} → IsAgain e a k found reply → IsCacheOf k cache
    → IsArriving e a k found cache None
arriving_again is knows =
    let noted = noted_again is in
    record {
      stood = is.stood;
      found_is = is.found_is;
      held = knows.held;
      told = knows.told;
      chain = knows.chain;
      there = books_there noted;
      parked = λ unlisted free. books_parked noted unlisted free.0;
      late = books_held noted;
    }

-- one whose body isn't missing adds nothing
pub nothing_again : {e : List EventValue} {a : ArrivalValue}
    {k : StoreState} (found : Assessment) {reply : ReplyValue} → IsAgain e a k found reply
    → is_missing k.bodies k.parked (sha256 a.body) found ≡ false → AddsNothing e a
nothing_again {e = e} {a = a} {k = k} Unlisted {reply = reply} is there =
    nothing_parked e a k Unlisted reply is (some_where (k.parked (sha256 a.body)) there)
nothing_again {e = e} {a = a} {k = k} (Unreadable r n) {reply = reply} is there =
    nothing_refused e a k (Unreadable r n) reply is (inl (r, n, refl))
nothing_again {e = e} {a = a} {k = k} (Differing r) {reply = reply} is there =
    nothing_refused e a k (Differing r) reply is (inr (r, refl))
nothing_again {e = e} {a = a} {k = k} (Holding r d) {reply = reply} is there =
    nothing_listed e a k (Holding r d) reply is (holding_listed r d) (λ q here. subst
    (λ (x : ℕ). IsSome (k.bodies x)) (same_Some _ _ here) (some_where (k.bodies r) there))
