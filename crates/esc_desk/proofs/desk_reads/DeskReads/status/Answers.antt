use Rattle.std.proofs.Common.{List, length, sym, ap, subst, ◌∙◌}
use Rattle.esc_manifest.specs.declared.row.MRow.{MRow}
use Rattle.esc_store.specs.StoreState.{AreCounts}
use Rattle.esc_store.specs.StandingLaws.{as_before_then, was_honest}
use Rattle.esc_desk.proofs.ReadLemmas.{desk_read, same_status}
use Rattle.esc_desk.proofs.desk_reads.DeskReads.status.Goals as goal

pub returns-clause-status : goal.returns-clause-status
returns-clause-status g c = λ clean e serves.
    let k = serves.kept in
    let stood = serves.stands_for in
    let at_cache = was_honest c.in_ok-objects.ensures.same clean in
    let at_count = was_honest c.in_ok-cache.ensures.same at_cache in
    let stands_1 = c.in_ok-receipts.ensures.same.stands k serves.stands in
    let stands_2 = c.in_ok-cache.ensures.same.stands k stands_1 in
    let stands_3 = c.in_ok-objects.ensures.same.stands k stands_2 in
    let told = c.status_of.ensures in
    let cache = c.in_ok-cache.ensures.cache at_cache e k stands_1 stood in
    same_status e k stood c.status_of.result c.in_ok-cache.cache.held_rows.items
    c.deref-2.result.now cache.held (c.deref-2.ensures.value ∙ cache.chain)
    (told.listed ∙ ap (λ (x : List MRow). length x)
    (c.rows-listed.ensures.rows ∙ c.manifest.ensures.kept k stands_3))
    (told.receipts ∙ c.in_ok-receipts.ensures.count at_count k serves.stands)
    (told.held ∙ ap length c.deref.ensures.value) told.chain told.end
    (subst (λ x. AreCounts k.registry.content x.entries)
    (sym told.objects) (c.in_ok-objects.ensures.counts clean k stands_2))

pub returns-in_err-receipts-clause-read : goal.returns-in_err-receipts-clause-read
returns-in_err-receipts-clause-read g c = desk_read g.S.Store c.args.self.now _ _ c.in_err-receipts.ensures.same

pub returns-in_err-cache-clause-read : goal.returns-in_err-cache-clause-read
returns-in_err-cache-clause-read g c = desk_read g.S.Store
    c.args.self.now _ _ (as_before_then c.in_ok-receipts.ensures.same c.in_err-cache.ensures.same)

pub returns-in_err-objects-clause-read : goal.returns-in_err-objects-clause-read
returns-in_err-objects-clause-read g c = desk_read g.S.Store c.args.self.now
    _ _ (as_before_then (as_before_then c.in_ok-receipts.ensures.same c.in_ok-cache.ensures.same)
    c.in_err-objects.ensures.same)

pub returns-clause-read : goal.returns-clause-read
returns-clause-read g c = desk_read g.S.Store c.args.self.now _ _ (as_before_then (as_before_then
    c.in_ok-receipts.ensures.same c.in_ok-cache.ensures.same) c.in_ok-objects.ensures.same)
