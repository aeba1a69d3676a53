use Rattle.httparse.specs.Spans.{header_bytes}
use Rattle.esc_request.specs.BodyLength.{is_header_named}
use Rattle.esc_request.proofs.LengthLemmas.{any_more}
use Rattle.esc_request.proofs.length.has_line.Goals as goal

pub loop-line-preserved : goal.loop-line-preserved
loop-line-preserved c =
    any_more (is_header_named c.args.name.now)
    (header_bytes c.args.bytes.now) c.args.lines.now c.loop-line.line-index
    _ c.loop-line-test.true _ _ c.loop-line.invariant c.is_named-found.ensures
