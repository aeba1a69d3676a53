use Rattle.esc_store.proofs.Readers.{starts}
use Rattle.esc_store.proofs.reader.StoreReader.from_trees.Goals as goal

pub returns-in-Ok-clause-stands : goal.returns-in-Ok-clause-stands
returns-in-Ok-clause-stands g c = λ clean k read. starts (rw c.in-Ok.is at c.read_manifest.ensures.read) clean k read
