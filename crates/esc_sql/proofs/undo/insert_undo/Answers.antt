use Rattle.esc_sql.proofs.Calls.{rules, makes, puts_image, bound_blob}
use Rattle.esc_sql.proofs.undo.insert_undo.Goals as goal

pub returns : goal.returns
returns g c = record {
  part = makes g.S.Store (puts_image _ _ _ _) c.write_within.ensures
      (search (rules, bound_blob (λ b. b.now) c.args.before));
}
