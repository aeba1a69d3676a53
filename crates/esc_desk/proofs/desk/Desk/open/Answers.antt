use Rattle.esc_desk.proofs.CrashLemmas.{leaves_at}
use Rattle.esc_desk.proofs.desk.Desk.open.Goals as goal

pub returns-clause-left : goal.returns-clause-left
returns-clause-left g c = λ e k left stands. leaves_at g.S.Store c.args.store stands left
