use Rattle.esc_sql.specs.StoreTable.{Objects}
use Rattle.esc_scan.specs.Kinds.{kind_read, kind_of_object}
use Rattle.esc_scan.proofs.Tables.{scanned}
use Rattle.esc_scan.proofs.object.object_kinds.Goals as goal

pub returns : goal.returns
returns g c = record {
  read = scanned g.S.Store Objects kind_read c.read_all.result (λ all. all.items) c.args.store.now c.read_all.new.store
      kind_of_object c.read_all.ensures.reads c.read_all.ensures.only c.read_all.ensures.quiet;
}
