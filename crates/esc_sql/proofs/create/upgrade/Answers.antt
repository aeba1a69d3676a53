use Rattle.esc_sql.proofs.Calls.{parts, then_part, AddsBoth, adds_both}
use Rattle.esc_sql.proofs.create.upgrade.Goals as goal

pub returns : goal.returns
returns g c =
    let parked = c.in_ok-create_table.ensures.part in
    let moment = c.in_ok-create_table-2.ensures.part in
    let both = parts {Both = AddsBoth} {z = c.in_ok-create_table.field-0} parked moment adds_both in
    record {
      part = then_part both c.raise_version.ensures.part
          (λ p q r adds raises content h. raises content (adds content h));
    }
