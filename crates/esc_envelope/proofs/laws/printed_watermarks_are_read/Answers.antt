use Rattle.esc_envelope.proofs.Printed.{watermark_read_back, watermark_has_text}
use Rattle.esc_envelope.proofs.laws.printed_watermarks_are_read.Goals as goal

pub returns-clause-read : goal.returns-clause-read
returns-clause-read c = watermark_read_back

pub returns-clause-printed : goal.returns-clause-printed
returns-clause-printed c = watermark_has_text
