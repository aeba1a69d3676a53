use Rattle.std.proofs.Common.{◌∙◌, ap, map, string_bytes}
use Rattle.std.proofs.lemmas.List.{take_all}
use Rattle.esc_tables.proofs.object.record_of.Goals as goal

pub returns : goal.returns
returns c = c.loop-text.invariant
    ∙ ap (map string_bytes) (take_all c.loop-text.text-index c.args.texts.now c.loop-text-test.false)
