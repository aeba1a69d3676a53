use Rattle.esc_store.specs.StandingLaws.{was_honest}
use Rattle.esc_desk.proofs.Telling.{has_receipts}
use Rattle.esc_desk.proofs.caching.cache_of.Goals as goal

pub returns-clause-cache : goal.returns-clause-cache
returns-clause-cache g c = λ clean e k stood for.
    let by_receipts = was_honest c.chain.ensures.same clean in
    let still = c.held.ensures.same.stands k stood in
    record {
      held = c.in_ok-held_rows.ensures.rows (was_honest c.held_by_receipts.ensures.same by_receipts)
          k stood (has_receipts e k for.books);
      told = c.in_ok-rows_with_receipt.ensures.rows by_receipts k still;
      chain = c.in_ok-chain.ensures.steps clean k (c.held_by_receipts.ensures.same.stands k still);
    }
