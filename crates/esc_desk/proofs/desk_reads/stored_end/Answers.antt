use Rattle.std.proofs.Common.{subst}
use Rattle.std.proofs.lemmas.Result.{IfOk-weaker}
use Rattle.esc_desk.specs.Reads.{SaysOfBody}
use Rattle.esc_desk.proofs.desk_reads.stored_end.Goals as goal

pub returns-clause-says : goal.returns-clause-says
returns-clause-says g c = λ honest k stands.
    IfOk-weaker c.end_in.result _ _ (λ end says. subst (λ body. SaysOfBody body end)
    (c.in_ok-body.ensures.found honest k stands) says) c.end_in.ensures.says
