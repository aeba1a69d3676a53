use Rattle.esc_record.proofs.Small.{have_records}
use Rattle.esc_record.proofs.laws.read_objects_have_records.Goals as goal

pub returns : goal.returns
returns c = λ body d read. have_records d.contents (c.read_objects_are_small.ensures body d read)
