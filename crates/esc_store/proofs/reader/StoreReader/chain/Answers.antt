use Rattle.esc_store.proofs.Common.{refl, map, step_row, step_at, ◌∙◌, ap, if_goes}
use Rattle.esc_store.proofs.Readers.{told_of, read_only, listed_is}
use Rattle.esc_store.proofs.reader.StoreReader.chain.Goals as goal

pub returns-clause-steps : goal.returns-clause-steps
returns-clause-steps g c = λ honest k stands. if_goes c.steps_of.result _ _ c.steps_of.ensures.steps (λ steps is.
    let told = told_of c.args.self.now c.in_ok-stored.ensures.read honest k stands in
    is k.steps (ap (map step_row) c.as_slice.ensures.value ∙ (told.says ∙ told.books.steps))
    ∙ ap (λ m. map (step_at m) k.steps) (listed_is g.S.Store c.args.self.now k stands))

pub returns-clause-same : goal.returns-clause-same
returns-clause-same g c = read_only refl c.in_ok-stored.ensures.read
