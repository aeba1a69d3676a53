-- What the statements on held bodies, on the chain and on the manifest's rows do.
use Rattle.esc_sql.proofs.Common.{ℕ, pos, [], ◌∷◌, refl, subst, ◌∙◌, not, int_eq, ltb, filter_same, Int}
use Rattle.esc_sql.proofs.Common.{PutsListed, Becomes, HoldsContent, ListedRow, shown_step}
use Rattle.esc_sql.proofs.Common.{shown_listed, Listed, Held, Steps, insert_listed_text}
use Rattle.esc_sql.proofs.Common.{select_listed_text}
use Rattle.esc_sql.proofs.Common.{insert_held_text, find_body_text, clear_steps_from_text}
use Rattle.esc_sql.proofs.Common.{insert_step_text, select_steps_text, arith}
use Rattle.esc_sql.specs.Rows.{HeldRow, StepRow, shown_held, held_number}
use Rattle.esc_sql.specs.Changes.{HoldsBody, AddsStep, steps_before}
use Rattle.esc_sql.specs.StatementSteps.{shown_body, ShowsBody, ShowsSteps, ShowsListed}
use Rattle.esc_sql.proofs.Compiled.{write_is, query_is}
use Rattle.esc_sql.proofs.Scan.{same_int, not_below_number, and_true}
use Rattle.esc_sql.proofs.Values.{cast_null, cast_int, cast_text}
use Rattle.esc_sql.proofs.Statements.{finds, lists, cuts, adds, appends}
use Rattle.esc_sql.proofs.PartLemmas.{IsAsking, IsWriting, writing_as}
use Rattle.sqlite_keyed.proofs.RuleLemmas.{at_most_one}

-- the INSERT of a held body holds it
pub holds_body : (b : HeldRow) → IsWriting insert_held_text (shown_held b) (HoldsBody b)
holds_body b = adds Held (write_is refl) b refl (rw (cast_null, cast_int (pos b.row)) refl)

-- the query of one held body shows it
pub finds_body : (row : ℕ) → IsAsking find_body_text (Int (pos row) ∷ []) (ShowsBody row)
finds_body row =
    finds Held (λ b. int_eq (held_number b) (pos row)) shown_body (query_is refl)
    (λ b. and_true _ ∙ same_int (pos b.row) (pos row)) (λ b. refl)
    (λ db c h. at_most_one held_number (pos row) _ (λ b is. is) c.held (h.store.ordered Held))

-- the INSERT of a step adds it
pub adds_step : (s : StepRow) → IsWriting insert_step_text (shown_step s) (AddsStep s)
adds_step s = appends Steps (write_is refl)
    s refl (rw (cast_null, cast_int (pos s.pos), cast_int (pos s.row)) refl) (λ x. x.pos) (λ x. refl)

-- the DELETE of steps leaves those before
pub clears_steps_from : (at : ℕ) → IsWriting clear_steps_from_text (Int (pos at) ∷ []) (Becomes (steps_before at))
clears_steps_from at =
    writing_as (cuts Steps (λ s. not (ltb s.pos at)) (write_is refl) (λ s. and_true _ ∙ not_below_number s.pos at))
    (λ old new cut c h. subst (λ ss. HoldsContent new (record c { steps = ss }))
    (filter_same _ (λ (s : StepRow). ltb s.pos at) (λ s. grind arith) c.steps) (cut c h))

-- the query of steps shows each
pub shows_steps : IsAsking select_steps_text [] ShowsSteps
shows_steps = lists Steps shown_step (query_is refl) (λ s. refl)

-- the INSERT of a manifest row puts it
pub puts_listed : (r : ListedRow) → IsWriting insert_listed_text (shown_listed r) (PutsListed r)
puts_listed r =
    writing_as (adds Listed (write_is refl) r refl (rw (
      cast_null,
      cast_int (pos r.row),
      cast_int (pos r.kind),
      cast_int r.watermark,
      cast_int (pos r.resend),
      cast_text r.prev,
    ) refl))
    (λ old new added c h. (added c h).0)

-- the query of the manifest's rows shows each
pub shows_listed : IsAsking select_listed_text [] ShowsListed
shows_listed = lists Listed shown_listed (query_is refl) (λ r. refl)
