use Rattle.std.proofs.Common.{◌≡◌, ◌++◌, drop}
use Rattle.esc_reports.specs.ReceiptsText.{replies_text}
use Rattle.esc_reports.proofs.receipts.write_replies.Given as goal

-- what was written, and the replies that are left
abbrev pub invariant-loop-reply : goal.invariant-loop-reply
invariant-loop-reply l = l.lines ++ replies_text (drop l.reply-index l.replies) ≡ l.fn.lines ++ replies_text l.replies
