use Rattle.esc_store.proofs.Common.{◌∙◌, ap, arith, map, take_all, stored_entry, entry_row, record_row}
use Rattle.esc_store.proofs.Paging.{one_entry}
use Rattle.esc_store.proofs.codec.object.entries_of.Goals as goal

pub loop-at-preserved : goal.loop-at-preserved
loop-at-preserved c = ap (map entry_row) c.in_ok-push.ensures.items
    ∙ one_entry (λ it. record_row (stored_entry it)) _ _ _ _ _ c.loop-at-test.true c.loop-at.invariant
    (c.in_ok-entry.ensures.entry ∙ ap (λ it. record_row (stored_entry it)) c.index-stored-at.is)

pub returns-clause-entries : goal.returns-clause-entries
returns-clause-entries c = c.loop-at.invariant ∙ ap (map (λ it. record_row (stored_entry it)))
    (take_all c.loop-at.at c.args.stored.now (omega arith))
