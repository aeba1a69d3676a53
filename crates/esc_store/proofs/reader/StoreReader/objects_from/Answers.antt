use Rattle.esc_store.proofs.Common.{refl, sym, ap, map, ◌∙◌, stored_entry, if_goes, record_row}
use Rattle.sqlite_keyed.proofs.ListLemmas.{map-map}
use Rattle.esc_store.proofs.Paging.{page_is}
use Rattle.esc_store.proofs.Readers.{told_of, read_only}
use Rattle.esc_store.proofs.reader.StoreReader.objects_from.Goals as goal

pub returns-clause-page : goal.returns-clause-page
returns-clause-page g c =
    λ honest k stands. if_goes c.entries_of.result _ _ c.entries_of.ensures.entries (λ page same.
    let told = told_of c.args.self.now c.in_ok-stored.ensures.read honest k stands in
    page_is c.no_record_begins_another.ensures k.registry
    told.content c.args.kind c.args.from.now (map stored_entry c.in_ok-stored.stored.items)
    page.items told.registry (rw (← c.kind_number.ensures) (told.says told.keys))
    (same ∙ ap (map (λ it. record_row (stored_entry it))) c.as_slice.ensures.value
    ∙ sym (map-map record_row stored_entry c.in_ok-stored.stored.items)))

pub returns-clause-same : goal.returns-clause-same
returns-clause-same g c = read_only refl c.in_ok-stored.ensures.read
