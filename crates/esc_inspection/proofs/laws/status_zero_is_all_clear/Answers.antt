use Rattle.esc_inspection.proofs.Cleared.{all_clear}
use Rattle.esc_inspection.proofs.laws.status_zero_is_all_clear.Goals as goal

pub returns : goal.returns
returns c = all_clear c.latest_chain_at_is_one.ensures
