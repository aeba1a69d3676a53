use Rattle.esc_store.proofs.Common.{refl, ◌∙◌, ap, map, if_goes, tallies}
use Rattle.esc_scan.specs.Kinds.{kind_read}
use Rattle.esc_store.proofs.Readers.{told_of, read_only}
use Rattle.esc_store.proofs.ReaderRows.{counts_read}
use Rattle.esc_store.proofs.reader.StoreReader.counts_by_kind.Goals as goal

pub returns-clause-counts : goal.returns-clause-counts
returns-clause-counts g c = λ honest k stands. if_goes c.by_kind.result _ _ c.by_kind.ensures.counts (λ counts is.
    let told = told_of c.args.self.now c.in_ok-stored.ensures.read honest k stands in
    counts_read told.database k.registry told.content c.in_ok-kinds.kinds.items counts.entries told.holds told.registry
    (c.in_ok-kinds.ensures.numbers ∙ (ap (map kind_read) c.as_slice.ensures.value ∙ told.says))
    (is ∙ (c.counts_of.ensures ∙ ap tallies c.as_slice-2.ensures.value)))

pub returns-clause-same : goal.returns-clause-same
returns-clause-same g c = read_only refl c.in_ok-stored.ensures.read
