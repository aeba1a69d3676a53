use Rattle.std.proofs.Common.{rules, ◌≤◌, [], length, take, arith}
use Rattle.std.proofs.lemmas.List.{length-take-le}
use Rattle.esc_request.specs.Head.{HasNoHead, IsUnfinished}
use Rattle.esc_request.specs.PieceLaws.{read_piece, read_failed}
use Rattle.esc_request.proofs.HeadLemmas.{of_front, none_at_limit, taken_more, read_more}
use Rattle.esc_request.proofs.head.read_head.Goals as goal

pub returns-then-filled-buffer-clause-none : goal.returns-then-filled-buffer-clause-none
returns-then-filled-buffer-clause-none g c =
    let front = take c.loop-spans.filled c.loop-spans.buffer in
    let long : 8192 ≤ length front = omega
    (arith, length-take-le c.loop-spans.filled c.loop-spans.buffer c.loop-spans.invariant.filled) in
    let none = rw c.in-Ok-Partial.field-0-is at c.in-Ok-Partial.ensures.partial in
    of_front _ _ front HasNoHead c.loop-spans.invariant.bytes (λ more. none_at_limit front more long none)

pub loop-spans-preserved : goal.loop-spans-preserved
loop-spans-preserved g c =
    let none = rw c.in-Ok-Partial.field-0-is at c.in-Ok-Partial.ensures.partial in
    let may = rw c.in-Ok-Partial.field-0-is at c.in-Ok-Partial.ensures.unfinished in
    record {
      filled = search rules;
      buffer_room = search rules;
      line_room = search rules;
      bytes = taken_more _ _ _ c.loop-spans.filled c.in_ok-count.count
          c.loop-spans.buffer c.read_some.new.buffer _ c.loop-spans.invariant.filled (search rules)
          c.loop-spans.invariant.bytes c.in_ok-count.ensures.bytes.0;
      read = read_more _ IsUnfinished _ _ _ [] c.loop-spans.filled c.in_ok-count.count
          c.loop-spans.buffer c.read_some.new.buffer _ c.loop-spans.invariant.filled (search rules)
          c.loop-spans.invariant.read (none, may) c.in_ok-count.ensures.piece;
    }

pub returns-in_err-count-clause-awaited : goal.returns-in_err-count-clause-awaited
returns-in_err-count-clause-awaited g c = (
  _,
  read_failed
      IsUnfinished _ _ _ [] _ _ _ c.loop-spans.invariant.read c.in_err-count.ensures.piece,
  search rules,
)

pub returns-then-count-eq0-clause-awaited : goal.returns-then-count-eq0-clause-awaited
returns-then-count-eq0-clause-awaited g c =
    let none = rw c.in-Ok-Partial.field-0-is at c.in-Ok-Partial.ensures.partial in
    let may = rw c.in-Ok-Partial.field-0-is at c.in-Ok-Partial.ensures.unfinished in (
      _,
      read_piece _ IsUnfinished
          _ _ _ [] _ _ _ c.loop-spans.invariant.read (none, may) c.in_ok-count.ensures.piece,
      tt,
    )
