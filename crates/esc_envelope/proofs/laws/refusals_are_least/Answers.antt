use Rattle.esc_envelope.proofs.LeastFault.{is_least, least_is}
use Rattle.esc_envelope.proofs.laws.refusals_are_least.Goals as goal

pub returns : goal.returns
returns c = λ text n. (is_least text n, least_is text n)
