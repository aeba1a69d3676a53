use Rattle.esc_sql.specs.StoreTable.{Steps}
use Rattle.esc_sql.specs.Entries.{step_row}
use Rattle.esc_scan.proofs.Tables.{scanned_rows}
use Rattle.esc_scan.proofs.step.all_steps.Goals as goal

pub returns : goal.returns
returns g c = record {
  read = scanned_rows g.S.Store
      Steps step_row c.read_all.result (λ all. all.items) c.args.store.now c.read_all.new.store
      c.read_all.ensures.reads c.read_all.ensures.only c.read_all.ensures.quiet;
}
