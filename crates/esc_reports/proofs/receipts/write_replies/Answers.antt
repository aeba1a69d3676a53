use Rattle.std.proofs.Common.{List, ◌++◌, sym, ap, ◌∙◌, append-nil}
use Rattle.std.proofs.lemmas.List.{drop_all}
use Rattle.esc_reports.specs.ReceiptsText.{replies_text}
use Rattle.esc_check.specs.WritingLaws.{front_added}
use Rattle.esc_reports.proofs.Pieces.{replies_more}
use Rattle.esc_reports.proofs.receipts.write_replies.Goals as goal

pub loop-reply-preserved : goal.loop-reply-preserved
loop-reply-preserved c =
    front_added _ _ _ _ _ _ (replies_more c.args.replies.now
    c.loop-reply.reply-index c.reply-item.result c.loop-reply-test.true c.reply-item.is)
    c.loop-reply.invariant c.in_ok-write_reply.ensures

pub returns : goal.returns
returns c =
    sym (append-nil _) ∙ ap (λ (replies : List _). c.loop-reply.lines ++ replies_text replies)
    (sym (drop_all _ _ c.loop-reply-test.false)) ∙ c.loop-reply.invariant
