use Rattle.std.proofs.Common.{ap, sym}
use Rattle.std.specs.Prelude.{is_some}
use Rattle.esc_tables.proofs.ChildFacts.{none_added, child_added}
use Rattle.esc_tables.proofs.gather.add_child.Goals as goal

pub returns-in-None-clause-added : goal.returns-in-None-clause-added
returns-in-None-clause-added c = rw c.get_mut.follows.holds-at-none
    (none_added c.args.objects.now c.args.key.now c.args.row c.in-None.ensures.value)

pub returns-in_ok-push_child-in-Some-clause-added : goal.returns-in_ok-push_child-in-Some-clause-added
returns-in_ok-push_child-in-Some-clause-added c =
    let w = c.push_child.new.object in
    child_added c.args.objects.now (c.get_mut.follows.lender w) c.args.key.now
    c.args.row c.in-Some.object.now w c.in-Some.ensures.value ((c.get_mut.follows.holds w).3
    (ap is_some (sym c.in-Some.ensures.value))) c.in_ok-push_child-in-Some.ensures
