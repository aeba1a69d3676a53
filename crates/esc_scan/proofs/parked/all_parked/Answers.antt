use Rattle.esc_sql.specs.StoreTable.{Parked}
use Rattle.esc_scan.specs.Bodies.{parked_size, size_of_parked}
use Rattle.esc_scan.proofs.Tables.{scanned}
use Rattle.esc_scan.proofs.parked.all_parked.Goals as goal

pub returns : goal.returns
returns g c = record {
  read = scanned g.S.Store
      Parked parked_size c.read_all.result (λ all. all.items) c.args.store.now c.read_all.new.store
      size_of_parked c.read_all.ensures.reads c.read_all.ensures.only c.read_all.ensures.quiet;
}
