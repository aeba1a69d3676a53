use Rattle.esc_store.proofs.Common.{refl}
use Rattle.std.specs.Ordering.{int_cmp}
use Rattle.esc_store.specs.declared.reader.objects.TableKey.{TableKey}
use Rattle.esc_store.proofs.Readers.{told_of, read_only}
use Rattle.esc_store.proofs.ReaderKeys.{are_keys, sorted_by_key}
use Rattle.esc_store.proofs.reader.StoreReader.keys.Goals as goal

pub returns-clause-keys : goal.returns-clause-keys
returns-clause-keys g c = λ honest k stands.
    let told = told_of c.args.self.now c.in_ok-keys.ensures.read honest k stands in
    are_keys told.database k.registry told.content c.in_ok-keys.keys.items _
    told.holds told.registry told.says c.sort_unstable.ensures.permutation
    (sorted_by_key (λ (a b : TableKey). int_cmp a.rowid b.rowid) _ c.sort_unstable.ensures.sorted)

pub returns-clause-same : goal.returns-clause-same
returns-clause-same g c = read_only refl c.in_ok-keys.ensures.read
