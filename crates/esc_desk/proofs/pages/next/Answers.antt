use Rattle.std.proofs.Common.{refl}
use Rattle.esc_desk.proofs.WalkSteps.{no_items, given, ended}
use Rattle.esc_desk.proofs.pages.next.Goals as goal

pub returns-in-None-clause-given : goal.returns-in-None-clause-given
returns-in-None-clause-given g c = λ honest es lists.
    let come = c.in_ok-fill.ensures.kept honest es lists in
    let none = c.in-None.ensures.cases in
    ended come _ (no_items c.fill.new.pages.page none.0)
    (c.in_ok-fill.ensures.full none.0) (no_items c.next.new.self none.1) (refl, refl, refl)

pub returns-else-pages-eq0-clause-given : goal.returns-else-pages-eq0-clause-given
returns-else-pages-eq0-clause-given g c = λ honest es lists.
    let come = c.in_ok-fill.ensures.kept honest es lists in
    given come _ c.in-Some.entry c.in-Some.ensures.cases.0 (refl, refl, refl)
