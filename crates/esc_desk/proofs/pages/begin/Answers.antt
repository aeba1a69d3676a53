use Rattle.esc_desk.specs.Walking.{of_kinds}
use Rattle.esc_desk.proofs.WalkSteps.{begins}
use Rattle.esc_desk.proofs.pages.begin.Goals as goal

pub returns-clause-come : goal.returns-clause-come
returns-clause-come g c = λ honest k stands es all.
    let start = c.first_place-pages.ensures in
    c.in_ok-fill.ensures.kept honest (of_kinds c.args.kind es)
    (begins g.P.Paged.represents c.args.store.now c.first_place-pages.result c.args.kind
    k es stands all start.page start.kind start.from start.alone)
