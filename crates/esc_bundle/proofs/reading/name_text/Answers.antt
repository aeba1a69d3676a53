use Rattle.std.proofs.lemmas.Str.{IsUtf8-from_ascii}
use Rattle.std.proofs.lemmas.Bool.{and_parts}
use Rattle.esc_bundle.proofs.Words.{IsAscii-name}
use Rattle.esc_bundle.proofs.reading.name_text.Goals as goal

pub unreachable-requires : goal.unreachable-requires
unreachable-requires c = c.in-Err.ensures.cases.0 (IsUtf8-from_ascii _ (IsAscii-name _ (and_parts _ _ c.requires).1))
