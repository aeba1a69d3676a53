use Rattle.esc_sql.proofs.Calls.{◌≡◌, rules, arith, refl, common_steps}
use Rattle.esc_sql.proofs.shape.is_reference.Goals as goal

pub returns : goal.returns
returns c = (
  λ t. let parent : c.args.reference.now.parent ≡ c.args.parent.now = search rules in
      grind (arith, common_steps, parent),
  λ e. refl,
)
