use Rattle.esc_sql.specs.StoreTable.{Objects}
use Rattle.esc_scan.specs.ObjectKeys.{key_of_object}
use Rattle.esc_scan.proofs.Tables.{scanned}
use Rattle.esc_store.specs.TableKeys.{numbered_key}
use Rattle.esc_store.proofs.reader.objects.stored_keys.Goals as goal

pub returns : goal.returns
returns g c = record {
  read = scanned g.S.Store Objects numbered_key c.read_all.result (λ all. all.items)
      c.args.trees.now c.read_all.new.store
      key_of_object c.read_all.ensures.reads c.read_all.ensures.only c.read_all.ensures.quiet;
}
