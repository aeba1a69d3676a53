use Rattle.esc_csv.proofs.Lengths.{fields_fit}
use Rattle.esc_csv.proofs.laws.fields_are_no_longer_than_the_text.Goals as goal

pub returns : goal.returns
returns c = fields_fit
