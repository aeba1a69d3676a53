use Rattle.esc_store.proofs.Common.{refl, ◌∙◌, ap}
use Rattle.esc_store.proofs.Readers.{told_of, read_only}
use Rattle.esc_store.proofs.reader.StoreReader.body_of.Goals as goal

pub returns-clause-found : goal.returns-clause-found
returns-clause-found g c = λ honest k stands.
    let told = told_of c.args.self.now c.in_ok-body.ensures.read honest k stands in
    told.says ∙ (told.books.held c.in_ok-row.row ∙ ap k.bodies c.in_ok-row.ensures.number)

pub returns-clause-same : goal.returns-clause-same
returns-clause-same g c = read_only refl c.in_ok-body.ensures.read
