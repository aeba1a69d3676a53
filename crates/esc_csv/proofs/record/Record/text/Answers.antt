use Rattle.std.proofs.lemmas.Str.{IsUtf8-from_is_utf8}
use Rattle.esc_csv.proofs.FieldFacts.{text_at}
use Rattle.esc_csv.proofs.record.Record.text.Goals as goal

pub unreachable-requires : goal.unreachable-requires
unreachable-requires c = c.in-Err.ensures.cases.0 (IsUtf8-from_is_utf8
    c.field.result.now (rw c.field.ensures (text_at c.args.self.now c.args.place c.requires)))
