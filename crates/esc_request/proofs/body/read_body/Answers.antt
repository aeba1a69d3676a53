use Rattle.std.proofs.Common.{◌≡◌, ℕ, List, length, take, min, subst, rules}
use Rattle.std.specs.Io.KnownBytes.{Consumes, prepend_known}
use Rattle.esc_request.specs.Body.{IsShorter}
use Rattle.esc_request.specs.PieceLaws.{read_no_piece}
use Rattle.esc_request.proofs.BodyLemmas.{whole_is, read_on}
use Rattle.esc_request.proofs.body.read_body.Goals as goal

pub returns-then-branch-clause-body : goal.returns-then-branch-clause-body
returns-then-branch-clause-body g c =
    let front = c.args.front.now in
    let body = c.fill_body.new.body.items in
    let before = g.R.Source.remaining c.args.source.now in
    let after = g.R.Source.remaining c.fill_body.new.source in
    let here : c.min-here.result ≡ min (length front) c.args.size = search rules in
    let long : length body ≡ c.args.size = search rules in
    let filled = rw c.if-branch.true at c.in_ok-fill_body.ensures.whole in
    let took : Consumes (prepend_known (take c.min-here.result front) before) after body =
    subst (λ (kept : List ℕ). Consumes (prepend_known kept before) after body) c.in-Ok.ensures.front filled in
    whole_is _ _ front body c.min-here.result c.args.size here long took

pub returns-in_default-clause-awaited : goal.returns-in_default-clause-awaited
returns-in_default-clause-awaited g c =
    (_, read_no_piece (IsShorter c.args.size) _ c.args.front.now)

pub returns-in_err-fill_body-clause-awaited : goal.returns-in_err-fill_body-clause-awaited
returns-in_err-fill_body-clause-awaited g c =
    let here : c.min-here.result ≡ min (length c.args.front.now) c.args.size = search rules in
    read_on _ _ c.args.front.now _ _ c.min-here.result c.args.size
    _ here c.in-Ok.ensures.size c.in-Ok.ensures.front c.in_err-fill_body.ensures.awaited.1

pub returns-then-branch-clause-awaited : goal.returns-then-branch-clause-awaited
returns-then-branch-clause-awaited g c =
    let here : c.min-here.result ≡ min (length c.args.front.now) c.args.size = search rules in
    read_on _ _ c.args.front.now _ _ c.min-here.result c.args.size
    _ here c.in-Ok.ensures.size c.in-Ok.ensures.front c.in_ok-fill_body.ensures.awaited.1

pub returns-else-branch-clause-awaited : goal.returns-else-branch-clause-awaited
returns-else-branch-clause-awaited g c =
    let here : c.min-here.result ≡ min (length c.args.front.now) c.args.size = search rules in
    read_on _ _ c.args.front.now _ _ c.min-here.result c.args.size
    _ here c.in-Ok.ensures.size c.in-Ok.ensures.front c.in_ok-fill_body.ensures.awaited.1
