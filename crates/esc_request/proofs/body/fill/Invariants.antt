use Rattle.std.proofs.Common.{◌≤◌, ◌-◌, length, take}
use Rattle.std.specs.Io.KnownBytes.{Consumes, prepend_known}
use Rattle.esc_request.specs.Body.{IsShorter}
use Rattle.esc_request.specs.Pieces.{ReadsWhile}
use Rattle.esc_request.proofs.body.fill.Given as goal

-- the front of the buffer has the front of the input
abbrev pub invariant-loop-at : goal.invariant-loop-at
invariant-loop-at g l = record {
  within : l.at ≤ length l.buffer;
  bytes : Consumes (prepend_known (take l.filled l.fn.buffer) (g.R.Source.remaining l.fn.source))
      (g.R.Source.remaining l.source) (take l.at l.buffer);
  read : ReadsWhile (IsShorter (length l.fn.buffer)) (g.R.Source.pieces l.fn.source)
      (g.R.Source.pieces l.source) (take l.filled l.fn.buffer) (take l.at l.buffer);
}

abbrev pub decreases-loop-at : goal.decreases-loop-at
decreases-loop-at g l = length l.buffer - l.at
