use Rattle.std.proofs.Common.{not, sym, ap, ◌∙◌}
use Rattle.esc_table_files.proofs.Repeats.{goes_on, stops, one_left}
use Rattle.esc_table_files.proofs.apart.repeated.Goals.{in-Some+else-is_repeated, in_default}
use Rattle.esc_table_files.proofs.apart.repeated.Goals as goal

pub loop-at-preserved : goal.loop-at-preserved
loop-at-preserved c =
    let names = c.args.names.now in
    let at = c.loop-at.at in
    elim c.match-split_first.branch [
      | in-Some+else-is_repeated w ↦
          sym (goes_on names at w.in-Some.name.now w.in-Some.later.now w.in-Some.ensures.cases.0
          (sym w.is_repeated.ensures ∙ w.if-is_repeated.false)) ∙ c.loop-at.invariant
      | in_default w ↦ absurd (one_left names at c.loop-at-test.true w.in_default.ensures.cases)
    ]

pub returns-then-is_repeated : goal.returns-then-is_repeated
returns-then-is_repeated c =
    ap not (sym (stops c.args.names.now c.loop-at.at c.in-Some.name.now c.in-Some.later.now
    c.in-Some.ensures.cases.0 (sym c.is_repeated.ensures ∙ c.if-is_repeated.true))
    ∙ c.loop-at.invariant)
