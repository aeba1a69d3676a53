use Rattle.std.proofs.Common.{◌≡◌, ◌≤◌, ◌-◌, [], length, take}
use Rattle.std.specs.Io.KnownBytes.{Consumes}
use Rattle.esc_request.specs.Head.{IsUnfinished}
use Rattle.esc_request.specs.Pieces.{ReadsWhile}
use Rattle.esc_request.proofs.head.read_head.Given as goal

-- what was read fills the front of the buffer
abbrev pub invariant-loop-spans : goal.invariant-loop-spans
invariant-loop-spans g l = record {
  filled : l.filled ≤ length l.buffer;
  buffer_room : length l.buffer ≡ 8192;
  line_room : length l.lines ≡ 32;
  bytes : Consumes (g.R.Source.remaining l.fn.source) (g.R.Source.remaining l.source) (take l.filled l.buffer);
  read : ReadsWhile IsUnfinished (g.R.Source.pieces l.fn.source)
      (g.R.Source.pieces l.source) [] (take l.filled l.buffer);
}

abbrev pub decreases-loop-spans : goal.decreases-loop-spans
decreases-loop-spans g l = length l.buffer - l.filled
