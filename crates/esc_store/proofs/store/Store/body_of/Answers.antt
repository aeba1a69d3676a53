use Rattle.esc_store.proofs.Common.{◌∙◌, ap, if_goes}
use Rattle.esc_store.proofs.Sure.{told_of}
use Rattle.esc_store.proofs.store.Store.body_of.Goals as goal

pub returns-clause-found : goal.returns-clause-found
returns-clause-found g c = λ honest k stands. if_goes
    c.body_here.result _ _ (told_of c.body_here.ensures.read honest k stands) (λ body told.
    told.says ∙ (told.books.held c.in_ok-row.row ∙ ap k.bodies c.in_ok-row.ensures.number))
