use Rattle.esc_sql.proofs.Calls.{◌≡◌, rules, arith, refl, common_steps}
use Rattle.esc_sql.proofs.shape.TableShapeDescribesTable.is_shape_of.Goals as goal

pub returns : goal.returns
returns c = (
  λ t.
      let name : c.args.it.now.name ≡ c.args.self.now.name.now = search rules in
      let primary : c.args.it.now.primary ≡ c.args.self.now.primary.now = search rules in
      grind (arith, common_steps, name, primary),
  λ e. refl,
)
