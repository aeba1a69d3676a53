-- The work of an arrival whose deposit is held, and the move to a moment.
use Rattle.std.proofs.Common.{◌≡◌, ℕ, ℤ, List, [], ◌∷◌, ◌++◌, Option, None, is_some, sym, ap}
use Rattle.std.proofs.Common.{subst, ◌∙◌, append-nil, true≢false}
use Rattle.std.specs.FinSet as set
use Rattle.sha2.specs.Sha256.{sha256}
use Rattle.esc_tables.specs.Reading.{reading}
use Rattle.esc_manifest.specs.declared.row.MRow.{MRow}
use Rattle.esc_chain.specs.Chain.{Rows}
use Rattle.esc_apply.specs.declared.moves.Work.{Work}
use Rattle.esc_store.specs.StoreState.{StoreState, body_put, kept_chain, with_moment}
use Rattle.esc_events.specs.declared.cache.Cache.{Cache}
use Rattle.esc_events.specs.declared.plan.Plan.{Plan}
use Rattle.esc_events.specs.ArrivalValue.{ArrivalValue}
use Rattle.esc_events.specs.Events.{EventValue}
use Rattle.esc_events.specs.Events.EventValue.{arrived, moved}
use Rattle.esc_events.specs.Cache.{IsCacheOf}
use Rattle.esc_events.specs.Plans.{AreLatestSteps}
use Rattle.esc_events.specs.StateAfter.{IsStateAfter, IsApart, held_body}
use Rattle.esc_events.specs.Works.{IsIdle}
use Rattle.esc_desk.proofs.AmendedBooks.{books_of_moment}
use Rattle.esc_desk.proofs.Moving.{IsMove, apart_before}
use Rattle.esc_desk.proofs.MovingLemmas.{contains_held}
use Rattle.esc_desk.proofs.KnownRows.{put_at}

-- an arrival that adds a row: nothing is said of one that adds none
pub idle_by : (e : List EventValue) (a : ArrivalValue) (k : StoreState) (row : ℕ)
    → IsStateAfter sha256 reading e k → k.bodies row ≡ None
    → (IsApart sha256 reading (e ++ arrived a ∷ [])
    → body_put k.bodies row a.body row ≡ held_body sha256 reading (e ++ arrived a ∷ []) row)
    → (work : Work) → IsIdle e (arrived a) work
idle_by e a k row stood none held work apart same =
    let now = held apart in
    let before = stood.books.bodies (apart_before e (arrived a) apart) row in
    absurd (true≢false (
    ap is_some (sym (put_at k.bodies row a.body) ∙ now)
    ∙ sym (contains_held sha256 reading (e ++ arrived a ∷ []) row)
    ∙ ap (λ (h : Rows). set.contains h row) same
    ∙ contains_held sha256 reading e row
    ∙ ap is_some (sym before ∙ none)))

-- ---- another moment is set

-- the move to a moment, from the chain that is kept to the latest one
pub moment_move : {e : List EventValue} {k : StoreState} {t : Option ℤ} {cache : Cache} {plan : Plan}
    {listed : List MRow} {rows : List ℕ} → IsStateAfter sha256 reading e k → IsCacheOf k cache
    → listed ≡ k.listed → rows ≡ cache.held_rows.items
    → AreLatestSteps listed rows t plan.new.items → plan.old.items ≡ kept_chain k
    → IsMove e (moved t) k (with_moment k t) [] cache.held_rows.items plan
moment_move {e = e} {k = k} {t = t} {plan = plan} {rows = rows} stood is listed_are rows_are latest old = record {
  stood = stood;
  books = books_of_moment e k t stood.books;
  begins = sym (append-nil k.listed);
  keeps = λ r body some. some;
  held = is.held;
  latest = subst (λ (x : List ℕ). AreLatestSteps k.listed x t plan.new.items)
      rows_are (subst (λ (m : List MRow). AreLatestSteps m rows t plan.new.items) listed_are latest);
  old = old;
}
