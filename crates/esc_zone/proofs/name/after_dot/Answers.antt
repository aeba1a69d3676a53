use Rattle.std.proofs.Common.{Some, ◌+◌, ◌∙◌, ap, sym}
use Rattle.esc_zone.proofs.Above.{above_at, above_none, to_end}
use Rattle.esc_zone.proofs.name.after_dot.Goals as goal

pub returns-in-Some-clause-rest : goal.returns-in-Some-clause-rest
returns-in-Some-clause-rest c =
    ap Some (to_end (c.in-Some.at + 1) c.args.text.now)
    ∙ sym (above_at c.args.text.now c.in-Some.at c.in-Some.ensures.place)

pub returns-in-None-clause-rest : goal.returns-in-None-clause-rest
returns-in-None-clause-rest c = above_none c.args.text.now c.in-None.ensures.place
