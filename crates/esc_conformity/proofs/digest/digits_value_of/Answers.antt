use Rattle.std.proofs.Common.{◌∙◌}
use Rattle.esc_conformity.proofs.Numbers.{digits_read}
use Rattle.esc_conformity.proofs.digest.digits_value_of.Goals as goal

pub returns : goal.returns
returns c = c.ok.ensures.value
    ∙ digits_read c.args.text.now c.parse.result c.parse.ensures.value.0 c.requires.some
    c.requires.few c.requires.digits
