use Rattle.sqlite_store.specs.FileStore.{view}
use Rattle.sqlite_store.specs.Unopened.{state_of, wanted_by, image}
use Rattle.esc_scan.proofs.TableLaws.{reads_store}
use Rattle.esc_scan.proofs.opening.reading.typed_trees.Goals as goal

pub returns-in-Ok-clause-found : goal.returns-in-Ok-clause-found
returns-in-Ok-clause-found g c =
    λ now. (wanted_by c.args.files, c.requires.tables, c.in-Ok.ensures.found now)

pub returns-in-Ok-clause-reads : goal.returns-in-Ok-clause-reads
returns-in-Ok-clause-reads g c =
    λ now. reads_store (state_of c.args.files).page_size (image c.args.files) (wanted_by c.args.files)
    (view c.in-Ok.store).trees (c.in-Ok.ensures.tables now) (c.in-Ok.ensures.indexes now) c.requires.tables
