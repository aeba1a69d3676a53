use Rattle.std.proofs.Common.{◌≡◌, take, map}
use Rattle.std.specs.List.{filter}
use Rattle.httparse.specs.Spans.{header_bytes}
use Rattle.esc_request.specs.BodyLength.{is_header_named, values_of}
use Rattle.esc_request.specs.Seen.{values_seen}
use Rattle.esc_request.proofs.length.values_named.Given as goal

abbrev pub invariant-loop-line : goal.invariant-loop-line
invariant-loop-line l = values_seen l.values ≡ values_of
    (filter (is_header_named l.name) (take l.line-index (map (header_bytes l.bytes) l.lines)))
