use Rattle.std.proofs.Common.{rules, refl, Bool, List, Some, is_some, sym, ap, ◌∙◌}
use Rattle.std.proofs.lemmas.Option.{IfSome_then}
use Rattle.esc_store.specs.Representation.{IsHonest}
use Rattle.esc_store.specs.StandingLaws.{as_before_then, was_honest}
use Rattle.esc_events.specs.ArrivalValue.{an_arrival}
use Rattle.esc_events.specs.Events.{EventValue}
use Rattle.esc_events.specs.Events.EventValue.{arrived}
use Rattle.esc_desk.specs.Answering.{IsAnswer, numbered}
use Rattle.esc_desk.specs.Decisions.{IsDone}
use Rattle.esc_desk.specs.Reflection.{DeskReflects}
use Rattle.esc_desk.proofs.Answered.{asked_of, had_room, leaves_answered}
use Rattle.esc_desk.proofs.CrashLemmas.{leaves_as, leaves_early, refused_taken}
use Rattle.esc_desk.proofs.StoreFacts.{still_serves}
use Rattle.esc_desk.proofs.Whole.{forgets, whole_early, whole_lost, whole_made}
use Rattle.esc_desk.proofs.desk.Desk.arrive.Given as given
use Rattle.esc_desk.proofs.desk.Desk.arrive.Goals as goal

-- ---- nothing was begun

pub returns-in_err-kept-clause-whole : goal.returns-in_err-kept-clause-whole
returns-in_err-kept-clause-whole g c =
    let same = c.in_err-kept.ensures.same in
    whole_early g.S.Store c.args.self.now _
    c.in_err-kept.field-0.0 (search rules) same (still_serves g.S.Store c.args.self.now _ same refl)

pub returns-in_err-kept-clause-crash : goal.returns-in_err-kept-clause-crash
returns-in_err-kept-clause-crash g c = λ e doubtful served left.
    let a = an_arrival c.args.number.now c.args.body.now in
    let f = c.in_err-kept.field-0.0 in
    refused_taken g.S.Store _ e doubtful a f (search rules)
    (leaves_early g.S.Store _ _ e doubtful left (arrived a) f c.in_err-kept.ensures.same.survives)

pub returns-in_err-answer-clause-whole : goal.returns-in_err-answer-clause-whole
returns-in_err-answer-clause-whole g c =
    let same = as_before_then c.in_ok-kept.ensures.same c.in_err-answer.ensures.same in
    whole_early g.S.Store c.args.self.now _ c.in_err-answer.field-0.0 (search rules)
    same (forgets g.S.Store c.args.self.now _ same c.in_err-answer.ensures.forgotten)

pub returns-in_err-answer-clause-crash : goal.returns-in_err-answer-clause-crash
returns-in_err-answer-clause-crash g c = λ e doubtful served left.
    let a = an_arrival c.args.number.now c.args.body.now in
    let f = c.in_err-answer.field-0.0 in
    let same = as_before_then c.in_ok-kept.ensures.same c.in_err-answer.ensures.same in
    refused_taken g.S.Store _ e doubtful a f (search rules)
    (leaves_early g.S.Store _ _ e doubtful left (arrived a) f same.survives)

-- ---- what was decided was not made

pub returns-in_err-number-clause-whole : goal.returns-in_err-number-clause-whole
returns-in_err-number-clause-whole g c =
    let same = as_before_then c.in_ok-kept.ensures.same c.in_ok-answer.ensures.same in
    whole_lost g.S.Store c.args.self.now _ _ same (forgets g.S.Store c.args.self.now
    _ same c.in_ok-answer.ensures.forgotten) c.in_err-number.field-0.0 (search rules) c.in_err-number.ensures.whole

pub returns-in_err-number-clause-crash : goal.returns-in_err-number-clause-crash
returns-in_err-number-clause-crash g c = λ e doubtful served left.
    let a = an_arrival c.args.number.now c.args.body.now in
    let k = served.serves.kept in
    let first = c.in_ok-kept.ensures.same in
    let then = c.in_ok-answer.ensures.same in
    refused_taken g.S.Store _ e doubtful a c.in_err-number.field-0.0 (search rules)
    (c.in_err-number.ensures.crash
    e doubtful (arrived a) k (then.stands k (first.stands k served.serves.stands)) (λ clean.
    let before = c.in_err-number.ensures.whole.honest clean in
    let asked = asked_of g.S.Store c.args.self.now c.receipt_of.new.self
    a.number c.digest-digest.result c.in_ok-kept.kept e served first
    (c.in_ok-kept.ensures.found (was_honest then before) k served.serves.stands) in
    (c.in_ok-answer.ensures.answers before e k asked).decided)
    (leaves_as g.S.Store _ _ e doubtful left (as_before_then first then).survives))

-- ---- it was made as it was decided

made : (g : given.Over) (c : goal.After-numbered g) → IsHonest g.S.Store c.make.new.self.store
    → (e : List EventValue) (served : DeskReflects g.S.Store c.args.self.now e)
    → IsAnswer e (an_arrival c.args.number.now c.args.body.now) served.serves.kept c.in_ok-answer.answer
    × IsDone g.S.Store c.answer_arrival.new.self.store
    c.make.new.self e (arrived (an_arrival c.args.number.now c.args.body.now))
    served.serves.kept c.in_ok-answer.answer.decision (c.in_ok-number.number, c.in_ok-number.work)
made g c clean e served =
    let a = an_arrival c.args.number.now c.args.body.now in
    let k = served.serves.kept in
    let first = c.in_ok-kept.ensures.same in
    let then = c.in_ok-answer.ensures.same in
    let before = c.in_ok-number.ensures.whole.honest clean in
    let asked = asked_of g.S.Store c.args.self.now c.receipt_of.new.self
    a.number c.digest-digest.result c.in_ok-kept.kept e served first
    (c.in_ok-kept.ensures.found (was_honest then before) k served.serves.stands) in
    let is = c.in_ok-answer.ensures.answers before e k asked in (
      is,
      c.in_ok-number.ensures.made
          clean e (arrived a) k (then.stands k (first.stands k served.serves.stands)) is.decided,
    )

pub returns-clause-answered : goal.returns-clause-answered
returns-clause-answered g c = λ clean e served.
    let (is, done) = made g c clean e served in
    let number = c.in_ok-number.number in
    let answer = c.in_ok-answer.answer in
    let new = ap (λ (b : Bool). numbered b number answer.reply) c.is_some-is_new.ensures in
    record {
      serves = done.serves;
      told = is.told number (IfSome_then answer.decision.edit.receipt done.result.numbered (λ r h. h.0))
          ∙ ap Some (sym (c.numbered.ensures ∙ new));
      repeats = λ r told.
          let again = is.again r told in
          let old = ap (λ (b : Bool). numbered b number answer.reply)
          (c.is_some-is_new.ensures ∙ ap is_some again.no_receipt) in
          (c.numbered.ensures ∙ old ∙ again.same, λ other. (done.rests (again.rests other)).0);
      works = done.works;
      idle = is.idle c.in_ok-number.work done.result.worked;
      room = had_room number served.serves.stands_for is done.result.numbered;
      place = is.place;
    }

pub returns-clause-whole : goal.returns-clause-whole
returns-clause-whole g c =
    let same = as_before_then c.in_ok-kept.ensures.same c.in_ok-answer.ensures.same in
    whole_made g.S.Store c.args.self.now _ _
    same (forgets g.S.Store c.args.self.now _ same c.in_ok-answer.ensures.forgotten) refl c.in_ok-number.ensures.whole

pub returns-clause-crash : goal.returns-clause-crash
returns-clause-crash g c = λ e doubtful served left.
    leaves_answered g.S.Store c.args.self.now.store c.answer_arrival.new.self.store
    c.make.new.self e doubtful (an_arrival c.args.number.now c.args.body.now) served.serves.kept
    c.in_ok-answer.answer (c.in_ok-number.number, c.in_ok-number.work) served.serves.stands_for
    left (as_before_then c.in_ok-kept.ensures.same c.in_ok-answer.ensures.same).survives
    (λ clean. made g c clean e served)
