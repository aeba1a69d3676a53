use Rattle.std.proofs.Common.{◌≡◌, rules, List, [], ◌∷◌, ◌++◌, refl}
use Rattle.esc_manifest.specs.declared.row.MRow.{MRow}
use Rattle.esc_manifest.specs.Extension.{extended}
use Rattle.esc_store.specs.Representation.{IsHonest}
use Rattle.esc_store.specs.StandingLaws.{as_before_then, was_honest}
use Rattle.esc_events.specs.Events.{EventValue, union}
use Rattle.esc_events.specs.Events.EventValue.{listed}
use Rattle.esc_desk.specs.Decisions.{IsDone}
use Rattle.esc_desk.specs.Reflection.{DeskReflects}
use Rattle.esc_desk.proofs.CrashLemmas.{if_clean, leaves_as, leaves_early, leaves_only, refused_made}
use Rattle.esc_desk.proofs.Whole.{forgets, whole_early, whole_lost, whole_made}
use Rattle.esc_desk.proofs.desk.Desk.list_more.Given as given
use Rattle.esc_desk.proofs.desk.Desk.list_more.Goals as goal

pub returns-in_err-cache-clause-whole : goal.returns-in_err-cache-clause-whole
returns-in_err-cache-clause-whole g c =
    let same = c.in_err-cache.ensures.same in
    whole_early g.S.Store _ _ c.in_err-cache.field-0.0 (search rules)
    same (forgets g.S.Store _ _ same c.in_err-cache.ensures.forgotten)

pub returns-in_err-cache-clause-crash : goal.returns-in_err-cache-clause-crash
returns-in_err-cache-clause-crash g c = λ more e doubtful served left united.
    let f = c.in_err-cache.field-0.0 in
    refused_made g.S.Store _ e doubtful (listed more) f (search rules) (leaves_early
    g.S.Store _ _ e doubtful left (listed more) f c.in_err-cache.ensures.same.survives)

pub returns-in_err-decision-clause-whole : goal.returns-in_err-decision-clause-whole
returns-in_err-decision-clause-whole g c =
    let same = as_before_then c.in_ok-cache.ensures.same c.in_err-decision.ensures.same in
    whole_early g.S.Store _ _ c.in_err-decision.field-0.0 (search rules)
    same (forgets g.S.Store _ _ same c.in_ok-cache.ensures.forgotten)

pub returns-in_err-decision-clause-crash : goal.returns-in_err-decision-clause-crash
returns-in_err-decision-clause-crash g c = λ more e doubtful served left united.
    let f = c.in_err-decision.field-0.0 in
    let same = as_before_then c.in_ok-cache.ensures.same c.in_err-decision.ensures.same in
    refused_made g.S.Store _ e doubtful (listed more) f (search rules)
    (leaves_early g.S.Store _ _ e doubtful left (listed more) f same.survives)

pub returns-in_err-_number-clause-whole : goal.returns-in_err-_number-clause-whole
returns-in_err-_number-clause-whole g c =
    let same = as_before_then c.in_ok-cache.ensures.same c.in_ok-decision.ensures.same in
    whole_lost g.S.Store _ _ _ same (forgets g.S.Store _ _ same c.in_ok-cache.ensures.forgotten)
    c.in_err-_number.field-0.0 (search rules) c.in_err-_number.ensures.whole

pub returns-in_err-_number-clause-crash : goal.returns-in_err-_number-clause-crash
returns-in_err-_number-clause-crash g c = λ more e doubtful served left united.
    let x = listed more in
    let k = served.serves.kept in
    let there = c.in_ok-cache.ensures.same.stands k served.serves.stands in
    let same = as_before_then c.in_ok-cache.ensures.same c.in_ok-decision.ensures.same in
    refused_made g.S.Store _ e doubtful x c.in_err-_number.field-0.0 (search rules)
    (c.in_err-_number.ensures.crash e doubtful x k (c.in_ok-decision.ensures.same.stands k there) (λ clean.
    let before = c.in_err-_number.ensures.whole.honest clean in
    let knows = c.in_ok-cache.ensures.cache (was_honest c.in_ok-decision.ensures.same before)
    e k served.serves.stands served.serves.stands_for served.remembers in
    c.in_ok-decision.ensures.decided before e k more there served.serves.stands_for knows united)
    (leaves_as g.S.Store _ _ e doubtful left same.survives))

-- it is made as it was decided
made : (g : given.Over) (c : goal.After-work-1 g) → IsHonest g.S.Store c.make.new.self.store
    → (more : List MRow) (e : List EventValue) (served : DeskReflects g.S.Store c.args.self.now e)
    → c.args.union ≡ extended (union e) more
    → IsDone g.S.Store c.decide_union.new.store c.make.new.self e (listed more)
    served.serves.kept c.in_ok-decision.decision (c.in_ok-_number._number, c.in_ok-_number.work)
made g c clean more e served united =
    let k = served.serves.kept in
    let there = c.in_ok-cache.ensures.same.stands k served.serves.stands in
    let before = c.in_ok-_number.ensures.whole.honest clean in
    let knows = c.in_ok-cache.ensures.cache (was_honest c.in_ok-decision.ensures.same before)
    e k served.serves.stands served.serves.stands_for served.remembers in
    let is = c.in_ok-decision.ensures.decided before e k more there served.serves.stands_for knows united in
    c.in_ok-_number.ensures.made clean e (listed more) k (c.in_ok-decision.ensures.same.stands k there) is

pub returns-clause-made : goal.returns-clause-made
returns-clause-made g c = λ more clean e served united.
    let done = made g c clean more e served united in
    record { serves = done.serves; works = done.works }

pub returns-clause-whole : goal.returns-clause-whole
returns-clause-whole g c =
    let same = as_before_then c.in_ok-cache.ensures.same c.in_ok-decision.ensures.same in
    whole_made g.S.Store _ _ _ same (forgets g.S.Store _ _ same c.in_ok-cache.ensures.forgotten)
    refl c.in_ok-_number.ensures.whole

pub returns-clause-crash : goal.returns-clause-crash
returns-clause-crash g c = λ more e doubtful served left united.
    if_clean g.S.Store _ _ _ (λ clean. leaves_only g.S.Store _ (e ++ listed more ∷ [])
    [] ((made g c clean more e served united).left c.in_ok-decision.ensures.some))
