use Rattle.std.proofs.lemmas.Result.{on_ok_weaker}
use Rattle.esc_conformity.proofs.Examining.{examined_more}
use Rattle.esc_conformity.proofs.examiner.Examiner.add.Goals as goal

pub returns : goal.returns
returns c = on_ok_weaker c.add.result (λ found. λ es left ordered survey had.
    examined_more _ c.args.registry.now.survey.now es left (c.args.key.now, c.args.object.now) c.args.self.now _
    ordered survey had c.in_ok-add_taken.ensures c.in_ok-add_suspect.ensures found) c.add.ensures
