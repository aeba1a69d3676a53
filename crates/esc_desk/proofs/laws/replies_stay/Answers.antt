use Rattle.esc_desk.proofs.RunLemmas.{replies_kept}
use Rattle.esc_desk.proofs.laws.replies_stay.Goals as goal

pub returns : goal.returns
returns c = replies_kept
