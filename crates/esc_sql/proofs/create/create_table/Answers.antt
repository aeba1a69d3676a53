use Rattle.esc_sql.proofs.Calls.{refl, makes, adds_table}
use Rattle.esc_sql.proofs.create.create_table.Goals as goal

pub returns : goal.returns
returns g c = record {
  part = makes g.S.Store (adds_table c.args.at c.requires)
      (rw c.table_text_at.ensures at c.write_within.ensures) refl;
}
