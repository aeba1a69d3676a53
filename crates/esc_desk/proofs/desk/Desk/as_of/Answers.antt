use Rattle.std.proofs.Common.{rules, List, [], ◌∷◌, ◌++◌, refl}
use Rattle.esc_store.specs.Representation.{IsHonest}
use Rattle.esc_events.specs.Events.{EventValue}
use Rattle.esc_events.specs.Events.EventValue.{moved}
use Rattle.esc_desk.specs.Decisions.{IsDone}
use Rattle.esc_desk.specs.Reflection.{DeskReflects}
use Rattle.esc_desk.proofs.CrashLemmas.{if_clean, leaves_as, leaves_early, leaves_only, refused_made}
use Rattle.esc_desk.proofs.Whole.{forgets, whole_early, whole_lost, whole_made}
use Rattle.esc_desk.proofs.desk.Desk.as_of.Given as given
use Rattle.esc_desk.proofs.desk.Desk.as_of.Goals as goal

pub returns-in_err-decision-clause-whole : goal.returns-in_err-decision-clause-whole
returns-in_err-decision-clause-whole g c =
    let same = c.in_err-decision.ensures.same in
    whole_early g.S.Store _ _ c.in_err-decision.field-0.0 (search rules)
    same (forgets g.S.Store _ _ same c.in_err-decision.ensures.forgotten)

pub returns-in_err-decision-clause-crash : goal.returns-in_err-decision-clause-crash
returns-in_err-decision-clause-crash g c = λ e doubtful served left.
    let f = c.in_err-decision.field-0.0 in
    refused_made g.S.Store _ e doubtful (moved c.args.moment) f (search rules) (leaves_early
    g.S.Store _ _ e doubtful left (moved c.args.moment) f c.in_err-decision.ensures.same.survives)

pub returns-in_err-_number-clause-whole : goal.returns-in_err-_number-clause-whole
returns-in_err-_number-clause-whole g c =
    let same = c.in_ok-decision.ensures.same in
    whole_lost g.S.Store _ _ _ same (forgets g.S.Store _ _ same c.in_ok-decision.ensures.forgotten)
    c.in_err-_number.field-0.0 (search rules) c.in_err-_number.ensures.whole

pub returns-in_err-_number-clause-crash : goal.returns-in_err-_number-clause-crash
returns-in_err-_number-clause-crash g c = λ e doubtful served left.
    let x = moved c.args.moment in
    let same = c.in_ok-decision.ensures.same in
    refused_made g.S.Store _ e doubtful x c.in_err-_number.field-0.0 (search rules)
    (c.in_err-_number.ensures.crash
    e doubtful x served.serves.kept (same.stands served.serves.kept served.serves.stands)
    (λ clean. c.in_ok-decision.ensures.decided (c.in_err-_number.ensures.whole.honest clean) e served)
    (leaves_as g.S.Store _ _ e doubtful left same.survives))

-- it is made as it was decided
made : (g : given.Over) (c : goal.After-work-1 g) → IsHonest g.S.Store c.make.new.self.store
    → (e : List EventValue) (served : DeskReflects g.S.Store c.args.self.now e)
    → IsDone g.S.Store c.decide_moment.new.self.store c.make.new.self e (moved c.args.moment)
    served.serves.kept c.in_ok-decision.decision (c.in_ok-_number._number, c.in_ok-_number.work)
made g c clean e served =
    let there = c.in_ok-decision.ensures.same.stands served.serves.kept served.serves.stands in
    c.in_ok-_number.ensures.made clean e (moved c.args.moment) served.serves.kept
    there (c.in_ok-decision.ensures.decided (c.in_ok-_number.ensures.whole.honest clean) e served)

pub returns-clause-set : goal.returns-clause-set
returns-clause-set g c = λ clean e served.
    let done = made g c clean e served in
    record { serves = done.serves; works = done.works }

pub returns-clause-whole : goal.returns-clause-whole
returns-clause-whole g c =
    let same = c.in_ok-decision.ensures.same in
    whole_made g.S.Store _ _ _ same (forgets g.S.Store _ _ same c.in_ok-decision.ensures.forgotten)
    refl c.in_ok-_number.ensures.whole

pub returns-clause-crash : goal.returns-clause-crash
returns-clause-crash g c = λ e doubtful served left.
    if_clean g.S.Store _ _ _ (λ clean. leaves_only g.S.Store _ (e ++ moved c.args.moment ∷ [])
    [] ((made g c clean e served).left c.in_ok-decision.ensures.some))
