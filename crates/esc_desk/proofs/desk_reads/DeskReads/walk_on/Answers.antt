use Rattle.esc_desk.proofs.ReadLemmas.{desk_read}
use Rattle.esc_desk.proofs.desk_reads.DeskReads.walk_on.Goals as goal

pub returns-clause-read : goal.returns-clause-read
returns-clause-read g c = desk_read g.S.Store c.args.self.now _ _ c.next.ensures.read.follows
