use Rattle.esc_sql.proofs.Calls.{rules, makes, adds_receipt, bound_number}
use Rattle.esc_sql.proofs.receipt.insert_receipt.Goals as goal

pub returns : goal.returns
returns g c = record {
  part = makes g.S.Store (adds_receipt _) c.write_within.ensures
      (search (rules, bound_number));
}
