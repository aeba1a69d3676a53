use Rattle.esc_store.proofs.Common.{◌∙◌, ap, arith, take_all, receipt_row, replies_from}
use Rattle.esc_store.proofs.Decoding.{one_reply, receipts_size}
use Rattle.esc_store.proofs.codec.receipt.replies_of.Goals as goal

pub loop-at-preserved : goal.loop-at-preserved
loop-at-preserved c = λ rs e. c.in_ok-push.ensures.items
    ∙ one_reply _ _ rs _ _ _ _ e c.loop-at-test.true (c.loop-at.invariant rs e)
    (λ n r h. c.in_ok-reply.ensures.reply n r (ap receipt_row c.index-stored-at.is ∙ h))

pub returns-clause-replies : goal.returns-clause-replies
returns-clause-replies c = λ rs e. c.loop-at.invariant rs e ∙ ap (replies_from c.args.manifest.now 1)
    (take_all c.loop-at.at rs (omega (arith, receipts_size c.args.stored.now rs e)))
