use Rattle.esc_desk.proofs.WalkSteps.{counted}
use Rattle.esc_desk.proofs.pages.next_counted.Goals as goal

pub returns-in-Some-clause-given : goal.returns-in-Some-clause-given
returns-in-Some-clause-given g c = λ honest es lists.
    let made = c.in_ok-next.ensures in
    rw c.in-Some.is at
    (counted g.P.Paged.represents c.next.new.store c.next.new.pages es c.in_ok-next.field-0
    c.args.pages.now.left (made.given honest es lists.come) made.left lists.count)
