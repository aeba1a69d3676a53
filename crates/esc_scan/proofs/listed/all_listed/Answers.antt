use Rattle.esc_sql.specs.StoreTable.{Listed}
use Rattle.esc_sql.specs.Entries.{listed_row}
use Rattle.esc_scan.proofs.Tables.{scanned_rows}
use Rattle.esc_scan.proofs.listed.all_listed.Goals as goal

pub returns : goal.returns
returns g c = record {
  read = scanned_rows g.S.Store
      Listed listed_row c.read_all.result (λ all. all.items) c.args.store.now c.read_all.new.store
      c.read_all.ensures.reads c.read_all.ensures.only c.read_all.ensures.quiet;
}
