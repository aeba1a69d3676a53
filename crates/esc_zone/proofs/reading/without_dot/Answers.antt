use Rattle.esc_zone.proofs.Texts.{no_dot_left}
use Rattle.esc_zone.proofs.reading.without_dot.Goals as goal

pub returns-in-None : goal.returns-in-None
returns-in-None c = let h = c.in-None.ensures.cases in no_dot_left c.args.text.now h
