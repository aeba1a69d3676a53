use Rattle.std.proofs.Common.{◌≡◌, ◌∙◌, sym}
use Rattle.std.proofs.lemmas.Result.{err_from_is_err_and}
use Rattle.esc_bundle.specs.Bundle.{view, views}
use Rattle.esc_bundle.specs.Reading.{next_at}
use Rattle.esc_bundle.proofs.OneReading.{more_of, no_more}
use Rattle.esc_bundle.proofs.Gathering.{gathered_none, gathered_all, gathered_more, gathered_refused}
use Rattle.esc_bundle.proofs.reading.gather.Goals as goal

pub loop-found-init : goal.loop-found-init
loop-found-init c = rw c.new-found.ensures.items (gathered_none c.args.text.now)

pub returns-in_err-section : goal.returns-in_err-section
returns-in_err-section c =
    let p = err_from_is_err_and c.from_residual.result c.from_residual.ensures.1 in
    let refused = rw c.as_slice.ensures.value at c.in_err-section.ensures in
    rw p.1 (λ n same. gathered_refused c.args.text.now c.loop-found.found.items c.loop-found.rest.now
    c.in_err-section.field-0.0 n c.loop-found.invariant refused (sym p.2 ∙ same))

pub loop-found-preserved : goal.loop-found-preserved
loop-found-preserved c =
    let next : next_at (views c.loop-found.found.items) c.loop-found.rest.now
    ≡ more_of (view c.in-Some.section, c.in-Some.after.now) =
    rw (c.as_slice.ensures.value, c.in-Some.is) at c.in_ok-section.ensures in
    rw c.in_ok-push.ensures.items (gathered_more c.args.text.now c.loop-found.found.items
    c.loop-found.rest.now c.in-Some.section c.in-Some.after.now c.loop-found.invariant next)

pub returns : goal.returns
returns c =
    let next : next_at (views c.loop-found.found.items) c.loop-found.rest.now ≡ no_more =
    rw (c.as_slice.ensures.value, c.in_default.is) at c.in_ok-section.ensures in
    gathered_all c.args.text.now c.loop-found.found.items c.loop-found.rest.now c.loop-found.invariant next
