use Rattle.std.proofs.Common.{subst, ◌∙◌}
use Rattle.std.proofs.lemmas.Result.{IfOk-weaker}
use Rattle.esc_manifest.specs.Accepted.{IsAccepted}
use Rattle.esc_desk.proofs.WalkSteps.{entries_kept}
use Rattle.esc_desk.proofs.ReadLemmas.{desk_read}
use Rattle.esc_desk.proofs.desk_reads.DeskReads.start_walk.Goals as goal

pub returns-clause-lists : goal.returns-clause-lists
returns-clause-lists g c = λ honest e serves.
    let k = serves.kept in
    let accepted = subst IsAccepted (c.manifest.ensures.kept k serves.stands
    ∙ serves.stands_for.books.listed) c.rows-rows.ensures.accepted in
    IfOk-weaker c.begin.result _ _ (λ pages come apart es entries order. come honest k serves.stands es
    (entries_kept c.latest_chain_at_is_one.ensures accepted apart serves.stands_for entries order))
    c.begin.ensures.come

pub returns-clause-read : goal.returns-clause-read
returns-clause-read g c = desk_read g.S.Store c.args.self.now _ _ c.begin.ensures.read.follows
