use Rattle.esc_store.proofs.Common.{refl, ◌∙◌}
use Rattle.esc_store.proofs.Readers.{told_of, read_only}
use Rattle.esc_store.proofs.reader.StoreReader.moment.Goals as goal

pub returns-clause-moment : goal.returns-clause-moment
returns-clause-moment g c = λ honest k stands.
    let told = told_of c.args.self.now c.in_ok-moment.ensures.read honest k stands in
    told.says ∙ told.books.moment

pub returns-clause-same : goal.returns-clause-same
returns-clause-same g c = read_only refl c.in_ok-moment.ensures.read
