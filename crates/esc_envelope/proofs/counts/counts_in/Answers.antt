use Rattle.std.proofs.Common.{sym}
use Rattle.serde_json.specs.View.{view}
use Rattle.esc_envelope.proofs.CountLoop.{started, next, fails, ended, all_ranks, counted_of}
use Rattle.esc_envelope.proofs.counts.counts_in.Goals as goal

pub loop-kind-init : goal.loop-kind-init
loop-kind-init c = rw c.new-found.ensures.empty (started (view c.args.counts.now) _)

pub returns-in_default : goal.returns-in_default
returns-in_default c =
    counted_of (view c.args.counts.now) _ (sym c.if-not-is_object.ensures)
    (fails (view c.args.counts.now) _ c.loop-kind.kind-index _ c.loop-kind.found.entries
    c.loop-kind-test.true (sym c.in_default.ensures) c.loop-kind.invariant)

pub loop-kind-preserved : goal.loop-kind-preserved
loop-kind-preserved c =
    next (view c.args.counts.now) _ c.loop-kind.kind-index _ c.in-Some.count c.loop-kind.found.entries
    _ c.loop-kind-test.true (all_ranks c.loop-kind.kind-index _ c.loop-kind-test.true)
    (sym c.in-Some.ensures) c.in_ok-put.ensures c.loop-kind.invariant

pub returns : goal.returns
returns c =
    counted_of (view c.args.counts.now) _ (sym c.if-not-is_object.ensures)
    (ended (view c.args.counts.now)
    _ c.loop-kind.kind-index c.loop-kind.found.entries c.loop-kind-test.false c.loop-kind.invariant)
