use Rattle.esc_manifest.proofs.Answered.{union_least, least_union}
use Rattle.esc_manifest.proofs.RowLeast.{rows_least, least_rows}
use Rattle.esc_manifest.proofs.TextLeast.{text_least, least_text}
use Rattle.esc_manifest.proofs.laws.faults_are_least.Goals as goal

pub returns : goal.returns
returns c = record {
  rows = λ m code row. (rows_least m code row, least_rows m code row);
  text = λ text code row. (text_least text code row, least_text text code row);
  union = λ m more code row listed added.
      (union_least m more listed added code row, least_union m more listed added code row);
}
