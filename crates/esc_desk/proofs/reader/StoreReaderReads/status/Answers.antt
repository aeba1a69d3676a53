use Rattle.std.proofs.Common.{List, length, sym, ap, subst, ◌∙◌}
use Rattle.esc_manifest.specs.declared.row.MRow.{MRow}
use Rattle.esc_store.specs.StoreState.{AreCounts}
use Rattle.esc_store.specs.ReadingLaws.{reader_was_honest}
use Rattle.esc_desk.proofs.ReadLemmas.{same_status}
use Rattle.esc_desk.proofs.Telling.{has_receipts}
use Rattle.esc_desk.proofs.reader.StoreReaderReads.status.Goals as goal

pub returns-clause-status : goal.returns-clause-status
returns-clause-status g c = λ clean e reflects.
    let k = reflects.kept in
    let at_chain = reader_was_honest c.in_ok-objects.ensures.same clean in
    let at_held = reader_was_honest c.in_ok-steps.ensures.same at_chain in
    let at_count = reader_was_honest c.in_ok-held.ensures.same at_held in
    let stands_1 = c.in_ok-receipts.ensures.same.stands k reflects.stands in
    let stands_2 = c.in_ok-held.ensures.same.stands k stands_1 in
    let stands_3 = c.in_ok-steps.ensures.same.stands k stands_2 in
    let stands_4 = c.in_ok-objects.ensures.same.stands k stands_3 in
    let told = c.status_of.ensures in
    same_status e k reflects.stands_for c.status_of.result c.in_ok-held.held.items c.deref-2.result.now
    (c.in_ok-held.ensures.rows at_held k stands_1 (has_receipts e k reflects.stands_for.books))
    (c.deref-2.ensures.value ∙ c.in_ok-steps.ensures.steps at_chain k stands_2)
    (told.listed ∙ ap (λ (x : List MRow). length x)
    (c.rows-listed.ensures.rows ∙ c.manifest.ensures.kept k stands_4))
    (told.receipts ∙ c.in_ok-receipts.ensures.count at_count k reflects.stands)
    (told.held ∙ ap length c.deref.ensures.value) told.chain told.end
    (subst (λ x. AreCounts k.registry.content x.entries)
    (sym told.objects) (c.in_ok-objects.ensures.counts clean k stands_3))
