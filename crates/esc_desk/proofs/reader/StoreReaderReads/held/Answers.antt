use Rattle.esc_store.specs.ResultLaws.{if_goes}
use Rattle.esc_desk.proofs.ReadLemmas.{same_held}
use Rattle.esc_desk.proofs.Telling.{has_receipts}
use Rattle.esc_desk.proofs.reader.StoreReaderReads.held.Goals as goal

pub returns-clause-rows : goal.returns-clause-rows
returns-clause-rows g c = λ honest e reflects.
    let k = reflects.kept in
    let stood = reflects.stands_for in
    if_goes c.held_of.result _ _ (c.held_of.ensures.rows
    honest k reflects.stands (has_receipts e k stood.books)) (λ rows are. same_held e k stood _ are)
