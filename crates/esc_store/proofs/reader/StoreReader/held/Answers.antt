use Rattle.std.proofs.Common.{List, ℕ, Result, Ok, map, refl, ap, subst, ◌∙◌}
use Rattle.esc_sql.specs.Entries.{receipt_row}
use Rattle.esc_store.specs.declared.fault.StoreFault.{StoreFault}
use Rattle.esc_store.specs.Holding.{AreFound}
use Rattle.esc_store.specs.ReadingLaws.{reader_was_honest, read_only_then}
use Rattle.esc_store.proofs.Common.{if_goes}
use Rattle.esc_store.proofs.FoundRows.{held_of_found}
use Rattle.esc_store.proofs.Readers.{read_only, told_of}
use Rattle.esc_store.proofs.reader.StoreReader.held.Goals as goal

-- the scan of receipts, without what it returned
abbrev done : Result (Unit {0}) StoreFault
done = Ok tt

pub returns-clause-rows : goal.returns-clause-rows
returns-clause-rows g c = λ clean k stood has.
    let scanned = read_only {new = record {
      trees = c.all_receipts.new.store;
      manifest = c.args.self.now.manifest;
    }} {result = done} refl c.in_ok-receipts.ensures.read in
    let said = told_of c.args.self.now
    c.in_ok-receipts.ensures.read (reader_was_honest c.with_found.ensures.same clean) k stood in
    let are = said.says ∙ said.books.receipts in
    let told = c.in_ok-told.ensures.rows k.receipts (ap (map receipt_row) c.as_slice.ensures.value ∙ are) in
    let digests = c.in_ok-digests.ensures.digests
    k.receipts (ap (map receipt_row) c.as_slice-2.ensures.value ∙ are) in
    if_goes c.with_found.result
    _ _ (c.with_found.ensures.found clean k (scanned.stands k stood) told.rising) (λ rows found.
    held_of_found k has c.in_ok-digests.digests.items digests c.in_ok-told.told.items rows.items told
    (subst (λ (ds : List (List ℕ)). AreFound k c.in_ok-told.told.items ds rows.items)
    c.as_slice-3.ensures.value found))

pub returns-clause-same : goal.returns-clause-same
returns-clause-same g c = read_only_then (read_only {result = done} refl c.in_ok-receipts.ensures.read)
    c.with_found.ensures.same
