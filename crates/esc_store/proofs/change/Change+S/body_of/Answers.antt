use Rattle.esc_store.proofs.Common.{◌∙◌, ap, if_ok}
use Rattle.esc_store.proofs.Following.{follows_look, holds_look}
use Rattle.esc_store.proofs.Parking.{found_books}
use Rattle.esc_store.proofs.change.Change+S.body_of.Goals as goal

pub returns-clause-follows : goal.returns-clause-follows
returns-clause-follows g c = follows_look c.body_here.ensures.read

pub returns-clause-found : goal.returns-clause-found
returns-clause-found g c = if_ok c.body_here.result _ (λ x is clean before k made.
    let said = found_books is c.in_ok-goes_on.ensures.on
    c.body_here.ensures.read clean c.args.self.now.listing before k made in
    said.1 ∙ (said.2.held c.in_ok-row.row ∙ ap k.bodies c.in_ok-row.ensures.number))

pub returns-clause-holds : goal.returns-clause-holds
returns-clause-holds g c = if_ok c.body_here.result _ (λ x is. holds_look c.body_here.ensures.read is)
