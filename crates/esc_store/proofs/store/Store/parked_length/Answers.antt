use Rattle.esc_store.proofs.Common.{◌∙◌, ap, length, option_map, if_goes}
use Rattle.esc_store.proofs.Sure.{told_of}
use Rattle.esc_store.proofs.store.Store.parked_length.Goals as goal

pub returns-clause-found : goal.returns-clause-found
returns-clause-found g c = λ honest k stands. if_goes
    c.length_here.result _ _ (told_of c.length_here.ensures.read honest k stands)
    (λ found told. told.says ∙ ap (option_map length) (told.books.parked c.args.digest.now))
