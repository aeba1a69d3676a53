use Rattle.std.proofs.lemmas.Str.{IsUtf8-from_ascii}
use Rattle.std.proofs.lemmas.Fmt.{IsAscii-from_digits}
use Rattle.esc_bundle.proofs.Words.{unparsed_over_limit}
use Rattle.esc_bundle.specs.ListLaws.{digits_model}
use Rattle.esc_bundle.proofs.reading.value_of.Goals as goal

pub returns-in-Err-parse-clause-over : goal.returns-in-Err-parse-clause-over
returns-in-Err-parse-clause-over c =
    λ over. unparsed_over_limit c.in-Ok.text.now c.args.digits.now c.in-Err-parse.field-0
    c.in-Err-parse.ensures.value.0 c.in-Ok.ensures.cases.0 c.requires.some c.requires.digits

pub returns-in-Err-clause-over : goal.returns-in-Err-clause-over
returns-in-Err-clause-over c = λ over. absurd (c.in-Err.ensures.cases.0
    (IsUtf8-from_ascii _ (IsAscii-from_digits _ (digits_model.to _ c.requires.digits))))
