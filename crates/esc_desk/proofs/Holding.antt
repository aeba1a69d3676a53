-- What a store stands for once an arrival like none before it was noted, and the move where its deposit is held.
use Rattle.std.proofs.Common.{◌≡◌, ◌⊎◌, inl, inr, ℕ, ℤ, Bool, true, false, cond, ◌==◌, List, []}
use Rattle.std.proofs.Common.{◌∷◌, ◌++◌, Option, Some, None, refl, sym, ap, subst, ◌∙◌, append-nil}
use Rattle.std.proofs.lemmas.Option.{none-some, same_Some}
use Rattle.std.proofs.lemmas.Bool.{eqb-true}
use Rattle.sha2.specs.Sha256.{sha256}
use Rattle.esc_bundle.specs.declared.refusal.Refusal.{Refusal}
use Rattle.esc_tables.specs.Reading.{reading}
use Rattle.esc_manifest.specs.declared.row.MRow.{MRow}
use Rattle.esc_store.specs.StoreState.{StoreState, AreHeld, AreHeldBy, body_put, kept_chain, with_body}
use Rattle.esc_store.specs.ReplyValue.{ReceiptValue}
use Rattle.esc_events.specs.declared.assessment.Assessment.{Assessment}
use Rattle.esc_events.specs.declared.assessment.Assessment.TheVariants.{Unlisted, Unreadable, Differing}
use Rattle.esc_events.specs.declared.cache.Cache.{Cache}
use Rattle.esc_events.specs.declared.plan.Plan.{Plan}
use Rattle.esc_events.specs.ArrivalValue.{ArrivalValue}
use Rattle.esc_events.specs.Events.{EventValue}
use Rattle.esc_events.specs.Events.EventValue.{arrived}
use Rattle.esc_events.specs.Assessment.{held_row}
use Rattle.esc_events.specs.Receipts.{is_among}
use Rattle.esc_events.specs.Plans.{AreLatestSteps}
use Rattle.esc_events.specs.StateAfter.{AreBooks, IsStateAfter}
use Rattle.esc_events.specs.Taking.{IsNew}
use Rattle.esc_store.specs.Holding.{IsInserted}
use Rattle.esc_desk.proofs.KnownRows.{told_more, told_same, says_row, row_said}
use Rattle.esc_desk.proofs.Moving.{IsMove}

-- ---- a receipt

-- a row lists the body, and it isn't that row's deposit
abbrev pub IsRefused : Assessment → Type 0
IsRefused found = ((r : ℕ) × (n : Refusal) × (found ≡ Unreadable r n)) ⊎ ((r : ℕ) × (found ≡ Differing r))

-- a body that is refused is listed
pub refused_listed : (found : Assessment) → IsRefused found → found ≡ Unlisted → ⊥
refused_listed found (inl (r, n, is)) same = let never : ⊥ = cc in never
refused_listed found (inr (r, is)) same = let never : ⊥ = cc in never

-- a body that is refused is held by no row
pub refused_row : (found : Assessment) → IsRefused found → held_row found ≡ None
refused_row found (inl (r, n, is)) = ap held_row is
refused_row found (inr (r, is)) = ap held_row is

-- where the receipt says of no row that it is held, what is known stays
pub told_still : (e : List EventValue)
    (a : ArrivalValue) (k : StoreState) (found : Assessment) (cache : Cache) (receipt : ReceiptValue)
    → IsNew e a k found cache receipt
    → held_row found ≡ None → AreHeldBy (k.receipts ++ receipt ∷ []) cache.rows_with_receipt.items
told_still e a k found cache receipt is none =
    subst (λ (r : ReceiptValue). AreHeldBy (k.receipts ++ r ∷ []) cache.rows_with_receipt.items) (sym is.receipt_is)
    (told_same _ is.cache_is.told
    (λ r says. none-some _ (sym none ∙ row_said a.number (sha256 a.body) found _ r says)))

-- where it says so of a row, that row is one of them
pub told_held : (e : List EventValue)
    (a : ArrivalValue) (k : StoreState) (found : Assessment) (cache : Cache) (receipt : ReceiptValue)
    → IsNew e a k found cache receipt → (row : ℕ) → held_row found ≡ Some row
    → (more : List ℕ) → IsInserted cache.rows_with_receipt.items row more
    → AreHeldBy (k.receipts ++ receipt ∷ []) more
told_held e a k found cache receipt is row held more inserted =
    let again = is_among cache.rows_with_receipt.items (held_row found) in
    let digest = sha256 a.body in
    subst (λ (r : ReceiptValue). AreHeldBy (k.receipts ++ r ∷ []) more) (sym is.receipt_is)
    (told_more _ is.cache_is.told inserted (says_row a.number digest found again row held)
    (λ r says. same_Some _ _ (sym (row_said a.number digest found again r says) ∙ held)))

-- ---- a deposit is held

-- a body is held of a row whose deposit it is
module _ (e : List EventValue) (a : ArrivalValue) (k : StoreState) (row : ℕ) where
  still_held : k.bodies row ≡ None
      → (r : ℕ) (body : List ℕ) → k.bodies r ≡ Some body → body_put k.bodies row a.body r ≡ Some body
  still_held none r body some = by_test (r == row) refl
    where
      by_test : (b : Bool) → (r == row) ≡ b → cond b (Some a.body) (k.bodies r) ≡ Some body
      by_test true same = absurd (none-some _ (sym none ∙ ap k.bodies (sym (eqb-true r row same)) ∙ some))
      by_test false other = some

  -- where nothing else of what a move is made by has changed, there is a move
  pub move_to : {rows : List ℕ} {plan : Plan}
      {moment : Option ℤ} {listed : List MRow} (receipts : List ReceiptValue) → k.bodies row ≡ None
      → IsStateAfter sha256 reading e k → AreBooks sha256 reading (e ++ arrived a ∷ [])
      (with_body (record k { receipts = receipts }) row a.body)
      → AreHeld (body_put k.bodies row a.body) rows → listed ≡ k.listed → moment ≡ k.moment
      → AreLatestSteps listed rows moment plan.new.items → plan.old.items ≡ kept_chain k
      → IsMove e (arrived a) k (with_body (record k { receipts = receipts }) row a.body) [] rows plan
  move_to {rows} {plan} {moment} {listed} receipts none stood books held rows_are moment_is latest old =
      let latest_there = subst (λ (m : List MRow). AreLatestSteps m rows moment plan.new.items) rows_are latest in
      record {
        stood = stood;
        books = books;
        begins = sym (append-nil k.listed);
        keeps = still_held none;
        held = held;
        latest = subst (λ (t : Option ℤ). AreLatestSteps k.listed rows t plan.new.items) moment_is latest_there;
        old = old;
      }
