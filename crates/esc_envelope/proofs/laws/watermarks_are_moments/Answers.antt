use Rattle.esc_envelope.proofs.MomentReads.{watermark_exact}
use Rattle.esc_envelope.proofs.laws.watermarks_are_moments.Goals as goal

pub returns : goal.returns
returns c = watermark_exact
