use Rattle.std.proofs.Common.{◌∙◌}
use Rattle.esc_csv.proofs.FieldFacts.{is_text_by}
use Rattle.esc_csv.proofs.record.is_text.Goals as goal

pub returns : goal.returns
returns c = c.is_ok.ensures.value ∙ is_text_by c.args.field.now _ _ c.from_utf8.result c.from_utf8.ensures.cases
