use Rattle.esc_store.specs.ResultLaws.{if_goes}
use Rattle.esc_desk.proofs.ReadLemmas.{desk_read, same_held}
use Rattle.esc_desk.proofs.Telling.{has_receipts}
use Rattle.esc_desk.proofs.desk_reads.DeskReads.held.Goals as goal

pub returns-clause-rows : goal.returns-clause-rows
returns-clause-rows g c = λ honest e serves.
    let k = serves.kept in
    let stood = serves.stands_for in
    if_goes c.held.result _ _ (c.held.ensures.rows
    honest k serves.stands (has_receipts e k stood.books)) (λ rows are. same_held e k stood _ are)

pub returns-clause-read : goal.returns-clause-read
returns-clause-read g c = desk_read g.S.Store c.args.self.now _ _ c.held.ensures.same
