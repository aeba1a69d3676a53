use Rattle.esc_store.proofs.Common.{refl, ◌∙◌, ap, map, subst, List}
use Rattle.std.specs.Prelude.{IsPermutation}
use Rattle.esc_store.specs.Reading.{parked_read}
use Rattle.esc_store.specs.declared.parked.ParkedBody.{ParkedBody}
use Rattle.esc_store.proofs.Readers.{told_of, read_only}
use Rattle.esc_store.proofs.ReaderRows.{parked_sorted}
use Rattle.esc_store.proofs.reader.StoreReader.parked.Goals as goal

pub returns-clause-bodies : goal.returns-clause-bodies
returns-clause-bodies g c = λ honest k stands.
    let told = told_of c.args.self.now c.in_ok-stored.ensures.read honest k stands in
    let after = c.by_digest.result.items in
    let before = c.in_ok-bodies.ensures.bodies ∙ ap (map parked_read) c.as_slice.ensures.value in
    parked_sorted told.database k told.content c.in_ok-stored.stored.items after told.holds told.books told.says
    (subst (λ (bs : List ParkedBody). IsPermutation bs after) before c.by_digest.ensures.permutation)
    c.by_digest.ensures.sorted

pub returns-clause-same : goal.returns-clause-same
returns-clause-same g c = read_only refl c.in_ok-stored.ensures.read
