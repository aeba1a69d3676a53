use Rattle.esc_reports.proofs.StatusLemmas.{kind_written}
use Rattle.esc_reports.proofs.status.push_objects.Goals as goal

pub loop-kind-preserved : goal.loop-kind-preserved
loop-kind-preserved c =
    kind_written _ _ _ _ _ c.next.new.self c.in-Some.kind.now c.in-Some.count.now
    c.in-Some.ensures.steps c.name.ensures c.loop-kind.invariant c.in_ok-push_number.ensures
