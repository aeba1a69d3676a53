use Rattle.std.proofs.Common.{option_map}
use Rattle.std.proofs.lemmas.Result.{IfOk-weaker}
use Rattle.esc_desk.proofs.ReadLemmas.{same_body}
use Rattle.esc_desk.proofs.reader.StoreReaderReads.body_of.Goals as goal

pub returns-clause-body : goal.returns-clause-body
returns-clause-body g c = λ clean e serves.
    IfOk-weaker c.body_of.result _ _ (λ body is. same_body e serves.kept serves.stands_for c.args.row
    (option_map (λ b. b.items) body) is) (c.body_of.ensures.found clean serves.kept serves.stands)
