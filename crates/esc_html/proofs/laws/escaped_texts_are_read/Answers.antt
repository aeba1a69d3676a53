use Rattle.esc_html.proofs.ReadBack.{read_back}
use Rattle.esc_html.proofs.laws.escaped_texts_are_read.Goals as goal

pub returns : goal.returns
returns c = read_back
