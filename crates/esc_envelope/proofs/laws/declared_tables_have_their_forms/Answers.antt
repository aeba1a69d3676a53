use Rattle.esc_envelope.proofs.Sound.{sound}
use Rattle.esc_envelope.proofs.laws.declared_tables_have_their_forms.Goals as goal

pub returns-clause-tables : goal.returns-clause-tables
returns-clause-tables c = λ text e h. (sound text e h).0

pub returns-clause-contents : goal.returns-clause-contents
returns-clause-contents c = λ text e h. (sound text e h).1

pub returns-clause-deletes : goal.returns-clause-deletes
returns-clause-deletes c = λ text e h. (sound text e h).2
