use Rattle.esc_store.proofs.Common.{◌∙◌, if_goes}
use Rattle.esc_store.proofs.Sure.{told_of}
use Rattle.esc_store.proofs.store.Store.parked_body.Goals as goal

pub returns-clause-found : goal.returns-clause-found
returns-clause-found g c = λ honest k stands. if_goes
    c.parked_here.result _ _ (told_of c.parked_here.ensures.read honest k stands)
    (λ body told. told.says ∙ told.books.parked c.args.digest.now)
