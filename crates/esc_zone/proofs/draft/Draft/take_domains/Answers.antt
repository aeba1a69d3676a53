use Rattle.std.proofs.Common.{List, [], ◌∷◌, ◌++◌, ◌≡◌, refl, sym, ap, subst, ◌∙◌, append_assoc, append-nil}
use Rattle.esc_apply.specs.ObjectStreams.{Entry}
use Rattle.esc_zone.specs.Noted.{AreTaken, DraftNotes, draft_notes, with_domains, with_domain_of}
use Rattle.esc_zone.proofs.Walks.{came, domains_step, domains_none}
use Rattle.esc_zone.proofs.Taken.{domains_taken}
use Rattle.esc_zone.proofs.draft.Draft.take_domains.Goals as goal

pub loop-key-init : goal.loop-key-init
loop-key-init g c = λ honest es lists. ([], es, lists, refl, domains_none _)

pub loop-key-preserved : goal.loop-key-preserved
loop-key-preserved g c =
    let objects = g.met.O.Objects in
    let d : DraftNotes = draft_notes c.args.self.now in
    λ honest es lists.
    let before = c.loop-key.invariant (objects.was_honest _ _ c.next.ensures.follows honest) es lists in
    let gave = came _ _ c.next.result c.map_err.result c.in_ok-key.field-0
    c.map_err.ensures.cases c.in_ok-key.was c.next.ensures.given honest before.1 before.2 in
    let one = rw c.in-Some.is at gave in
    let e : Entry = (c.in-Some.key, c.in-Some.object) in (
      before.0 ++ e ∷ [],
      one.0,
      one.2,
      before.3 ∙ ap (λ (l : List Entry). before.0 ++ l) one.1 ∙ sym (append_assoc before.0 (e ∷ []) one.0),
      c.in_ok-take_domain.ensures ∙ ap (with_domain_of e) before.4 ∙ domains_step before.0 e d,
    )

pub returns-clause-noted : goal.returns-clause-noted
returns-clause-noted g c =
    let objects = g.met.O.Objects in
    let d : DraftNotes = draft_notes c.args.self.now in
    λ honest es lists.
    let before = c.loop-key.invariant (objects.was_honest _ _ c.next.ensures.follows honest) es lists in
    let gave = came _ _ c.next.result c.map_err.result c.in_ok-key.field-0
    c.map_err.ensures.cases c.in_ok-key.was c.next.ensures.given honest before.1 before.2 in
    let none = rw c.in_default.is at gave in
    let all = before.3 ∙ ap (λ (l : List Entry). before.0 ++ l) none.0 ∙ append-nil before.0 in
    before.4 ∙ ap (λ (l : List Entry). with_domains l d) (sym all)

pub returns-clause-taken : goal.returns-clause-taken
returns-clause-taken g c =
    let objects = g.met.O.Objects in
    let d : DraftNotes = draft_notes c.args.self.now in
    λ honest es lists hosts mirrors uses t.
    let before = c.loop-key.invariant (objects.was_honest _ _ c.next.ensures.follows honest) es lists in
    let gave = came _ _ c.next.result c.map_err.result c.in_ok-key.field-0
    c.map_err.ensures.cases c.in_ok-key.was c.next.ensures.given honest before.1 before.2 in
    let none = rw c.in_default.is at gave in
    let all = before.3 ∙ ap (λ (l : List Entry). before.0 ++ l) none.0 ∙ append-nil before.0 in
    let same = before.4 ∙ ap (λ (l : List Entry). with_domains l d) (sym all) in
    subst (λ (x : DraftNotes). AreTaken hosts es mirrors uses x) (sym same) (domains_taken hosts es mirrors uses d t)
