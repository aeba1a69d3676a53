use Rattle.esc_store.proofs.Common.{◌∙◌, if_goes}
use Rattle.esc_store.proofs.Sure.{told_of}
use Rattle.esc_store.proofs.store.Store.moment.Goals as goal

pub returns-clause-moment : goal.returns-clause-moment
returns-clause-moment g c = λ honest k stands. if_goes c.moment_here.result _ _
    (told_of c.moment_here.ensures.read honest k stands) (λ moment told. told.says ∙ told.books.moment)
