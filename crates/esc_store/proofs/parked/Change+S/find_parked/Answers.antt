use Rattle.esc_store.proofs.Common.{◌∙◌, if_ok}
use Rattle.esc_store.proofs.Sure.{read_settled}
use Rattle.esc_store.proofs.Following.{follows_look, holds_look}
use Rattle.esc_store.proofs.Parking.{found_books}
use Rattle.esc_store.proofs.parked.Change+S.find_parked.Goals as goal

pub returns-clause-follows : goal.returns-clause-follows
returns-clause-follows g c = follows_look (read_settled c.settle.ensures c.find_parked-found.ensures.read)

pub returns-clause-found : goal.returns-clause-found
returns-clause-found g c = if_ok c.settle.result _ (λ x is clean before k made.
    let said = found_books is c.in_ok-goes_on.ensures.on (read_settled c.settle.ensures
    c.find_parked-found.ensures.read) clean c.args.self.now.listing before k made in
    said.1 ∙ said.2.parked c.args.digest.now)

pub returns-clause-holds : goal.returns-clause-holds
returns-clause-holds g c = if_ok c.settle.result
    _ (λ x is. holds_look (read_settled c.settle.ensures c.find_parked-found.ensures.read) is)
