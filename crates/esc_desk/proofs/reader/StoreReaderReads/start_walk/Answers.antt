use Rattle.std.proofs.Common.{subst, ◌∙◌}
use Rattle.esc_manifest.specs.Accepted.{IsAccepted}
use Rattle.esc_store.specs.ReadingLaws.{unwritten_honest}
use Rattle.esc_store.specs.ResultLaws.{if_both}
use Rattle.esc_desk.proofs.WalkSteps.{entries_kept}
use Rattle.esc_desk.proofs.reader.StoreReaderReads.start_walk.Goals as goal

pub returns-clause-lists : goal.returns-clause-lists
returns-clause-lists g c = λ honest e serves.
    let k = serves.kept in
    let accepted = subst IsAccepted (c.manifest.ensures.kept k serves.stands
    ∙ serves.stands_for.books.listed) c.rows-rows.ensures.accepted in
    let before = unwritten_honest g.S.Store c.begin.ensures.read.follows.unwritten honest in
    if_both c.begin.result _ _ _ c.begin.ensures.come c.begin.ensures.left
    (λ pages come left apart es entries order.
    let all = entries_kept c.latest_chain_at_is_one.ensures accepted apart serves.stands_for entries order in
    record {
      come = come honest k (c.in_ok-left.ensures.same.stands k serves.stands) es all;
      count = left ∙ c.in_ok-left.ensures.count before k serves.stands es all;
    })
