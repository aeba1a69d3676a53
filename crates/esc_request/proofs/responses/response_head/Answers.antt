use Rattle.std.proofs.Common.{◌≡◌, ◌∙◌, append_assoc, string_bytes}
use Rattle.std.proofs.lemmas.Result.{IfOk-weaker}
use Rattle.esc_request.proofs.ResponseLemmas.{head_pieces, head_lines}
use Rattle.esc_request.proofs.responses.response_head.Goals as goal

pub returns : goal.returns
returns c =
    IfOk-weaker c.format.result _ _ (λ head is.
    let pieces : string_bytes head ≡ head_pieces
    c.args.status.now c.args.media.now c.args.allow.now c.args.size = is ∙ simp append_assoc in
    pieces ∙ head_lines c.args.status.now c.args.media.now c.args.allow.now c.args.size) c.format.ensures.ok
