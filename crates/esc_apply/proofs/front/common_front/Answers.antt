use Rattle.std.proofs.Common.{subst, sym}
use Rattle.esc_apply.specs.Front.{IsCommonFront}
use Rattle.esc_apply.proofs.Fronts.{is_common_front}
use Rattle.esc_apply.proofs.front.common_front.Goals as goal

pub returns-clause-longest : goal.returns-clause-longest
returns-clause-longest c = subst (IsCommonFront c.args.old.now c.args.new.now)
    (sym c.same_steps.ensures) (is_common_front c.args.old.now c.args.new.now)
