use Rattle.esc_desk.proofs.SameHeld.{same_kept}
use Rattle.esc_desk.proofs.laws.same_held_same_kept.Goals as goal

pub returns : goal.returns
returns c = same_kept c.latest_chain_at_is_one.ensures
