use Rattle.std.proofs.Common.{◌≡◌, take, map}
use Rattle.std.specs.List.{list_any}
use Rattle.httparse.specs.Spans.{header_bytes}
use Rattle.esc_request.specs.BodyLength.{is_header_named}
use Rattle.esc_request.proofs.length.has_line.Given as goal

abbrev pub invariant-loop-line : goal.invariant-loop-line
invariant-loop-line l =
    l.found ≡ list_any (is_header_named l.name) (take l.line-index (map (header_bytes l.bytes) l.lines))
