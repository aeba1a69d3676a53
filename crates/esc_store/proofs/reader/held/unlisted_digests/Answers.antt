use Rattle.std.proofs.Common.{◌≡◌, ◌++◌, ◌∷◌, [], ℕ, List, Some, None, filter_map, sym, ap, subst}
use Rattle.std.proofs.Common.{◌∙◌}
use Rattle.std.proofs.lemmas.List.{append-nil, take_all}
use Rattle.esc_sql.specs.Entries.{receipt_row}
use Rattle.esc_sql.specs.declared.receipt.Receipt.{Receipt}
use Rattle.esc_store.specs.Decoded.{digest_if_unlisted}
use Rattle.esc_store.specs.StoreState.{AreUnlisted}
use Rattle.esc_store.proofs.ReceiptRows.{picked_of, picked_more, picked_digests}
use Rattle.esc_store.proofs.reader.held.unlisted_digests.Goals as goal
use Rattle.esc_store.proofs.reader.held.unlisted_digests.Goals.{in-Some+in_ok-push, in_default}

pub loop-receipt-preserved : goal.loop-receipt-preserved
loop-receipt-preserved c =
    let receipt = c.receipt-item.result in
    let more = picked_more (λ (r : Receipt). digest_if_unlisted (receipt_row r)) c.args.receipts.now
    c.loop-receipt.receipt-index receipt receipt c.loop-receipt-test.true c.receipt-item.is in
    elim c.match-branch-2.branch [
      | in-Some+in_ok-push w ↦
          let made : Some w.in-Some.digest ≡ digest_if_unlisted (receipt_row receipt) =
          sym w.in-Some.is ∙ c.in_ok-digest.ensures.digest in
          ap (λ v. v.items) w.digests-is ∙ w.in_ok-push.ensures.items ∙ ap (λ (ds : List (List ℕ)). ds
          ++ w.in-Some.digest ∷ []) c.loop-receipt.invariant ∙ sym (rw (sym made) at more)
      | in_default w ↦
          let none : None ≡ digest_if_unlisted (receipt_row receipt) =
          sym w.in_default.is ∙ c.in_ok-digest.ensures.digest in
          ap (λ v. v.items) w.digests-is
          ∙ c.loop-receipt.invariant ∙ sym ((rw (sym none) at more) ∙ append-nil _)
    ]

pub returns-clause-digests : goal.returns-clause-digests
returns-clause-digests c = λ rs are.
    let all = c.args.receipts.now in
    let is = c.loop-receipt.invariant
    ∙ ap (filter_map (λ (r : Receipt). digest_if_unlisted (receipt_row r)))
    (take_all c.loop-receipt.receipt-index all c.loop-receipt-test.false)
    ∙ picked_of receipt_row digest_if_unlisted all ∙ ap (filter_map digest_if_unlisted) are in
    subst (AreUnlisted rs) (sym is) (picked_digests rs)
