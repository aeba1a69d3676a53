use Rattle.esc_record.proofs.Objects.{alone}
use Rattle.esc_record.proofs.laws.no_record_begins_another.Goals as goal

pub returns : goal.returns
returns c = alone
