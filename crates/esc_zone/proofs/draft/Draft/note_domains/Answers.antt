use Rattle.std.proofs.Common.{List, [], ◌∷◌, ◌++◌, ◌≡◌, refl, sym, ap, subst, ◌∙◌, append_assoc, append-nil}
use Rattle.esc_apply.specs.ObjectStreams.{Entry}
use Rattle.esc_zone.specs.Noted.{AreTaken, DraftNotes, draft_notes, with_uses, with_noted, is_used_by, is_above_used}
use Rattle.esc_zone.proofs.Walks.{came, uses_step}
use Rattle.esc_zone.proofs.Taken.{fresh_taken}
use Rattle.esc_zone.proofs.draft.Draft.note_domains.Goals as goal

pub loop-key-init : goal.loop-key-init
loop-key-init g c = λ honest es lists. ([], es, lists, refl, refl)

pub loop-key-preserved : goal.loop-key-preserved
loop-key-preserved g c =
    let objects = g.met.O.Objects in
    let d : DraftNotes = draft_notes c.args.self.now in
    λ honest es lists.
    let before = c.loop-key.invariant (objects.was_honest _ _ c.next.ensures.follows honest) es lists in
    let gave = came _ _ c.next.result c.map_err.result c.in_ok-key.field-0
    c.map_err.ensures.cases c.in_ok-key.was c.next.ensures.given honest before.1 before.2 in
    let one = rw c.in-Some.is at gave in
    let e : Entry = (c.in-Some.key, c.in-Some.object) in (
      before.0 ++ e ∷ [],
      one.0,
      one.2,
      before.3 ∙ ap (λ (l : List Entry). before.0 ++ l) one.1 ∙ sym (append_assoc before.0 (e ∷ []) one.0),
      c.in_ok-note_domain.ensures
          ∙ ap (λ (n : DraftNotes). with_noted (is_used_by n.settings e) (is_above_used n.settings e) n) before.4
          ∙ uses_step before.0 e d,
    )

pub returns-clause-noted : goal.returns-clause-noted
returns-clause-noted g c =
    let objects = g.met.O.Objects in
    let d : DraftNotes = draft_notes c.args.self.now in
    λ honest es lists.
    let before = c.loop-key.invariant (objects.was_honest _ _ c.next.ensures.follows honest) es lists in
    let gave = came _ _ c.next.result c.map_err.result c.in_ok-key.field-0
    c.map_err.ensures.cases c.in_ok-key.was c.next.ensures.given honest before.1 before.2 in
    let none = rw c.in_default.is at gave in
    let all = before.3 ∙ ap (λ (l : List Entry). before.0 ++ l) none.0 ∙ append-nil before.0 in
    before.4 ∙ ap (λ (l : List Entry). with_uses l d) (sym all)

pub returns-clause-taken : goal.returns-clause-taken
returns-clause-taken g c =
    let objects = g.met.O.Objects in
    let d : DraftNotes = draft_notes c.args.self.now in
    λ honest es lists t.
    let before = c.loop-key.invariant (objects.was_honest _ _ c.next.ensures.follows honest) es lists in
    let gave = came _ _ c.next.result c.map_err.result c.in_ok-key.field-0
    c.map_err.ensures.cases c.in_ok-key.was c.next.ensures.given honest before.1 before.2 in
    let none = rw c.in_default.is at gave in
    let all = before.3 ∙ ap (λ (l : List Entry). before.0 ++ l) none.0 ∙ append-nil before.0 in
    let same = before.4 ∙ ap (λ (l : List Entry). with_uses l d) (sym all) in
    subst (λ (x : DraftNotes). AreTaken [] [] [] es x) (sym same) (fresh_taken d es t)
