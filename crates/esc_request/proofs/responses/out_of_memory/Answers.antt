use Rattle.std.proofs.Common.{refl}
use Rattle.std.specs.Fmt.{digits}
use Rattle.esc_request.proofs.responses.out_of_memory.Goals as goal

pub returns : goal.returns
unfolding digits
returns c = record { text = refl }
