use Rattle.esc_handover.proofs.AxisOrder.{in_order}
use Rattle.esc_handover.proofs.laws.moments_stand_in_order.Goals as goal

pub returns : goal.returns
returns c = in_order
