use Rattle.std.proofs.Common.{sym}
use Rattle.std.proofs.lemmas.Result.{on_ok_weaker}
use Rattle.esc_inspection.proofs.comparison.Comparison.mention.Goals as goal

pub returns-in-Some : goal.returns-in-Some
returns-in-Some c = λ es order found.
    c.mention_there.ensures es c.args.key.now order (rw c.in-Some.is at found.position)

pub returns-in-None : goal.returns-in-None
returns-in-None c = on_ok_weaker c.mention_absent.result
    (λ made es order found. made es (sym (rw c.in-None.is at found.object))) c.mention_absent.ensures
