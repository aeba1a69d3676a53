use Rattle.std.proofs.Common.{◌≡◌, ℕ, List, ◌++◌, length}
use Rattle.std.specs.Io.KnownBytes.{Appends}
use Rattle.esc_request.proofs.sending.send.Given as goal

-- the text is what was sent, and the rest
abbrev pub invariant-loop-rest : goal.invariant-loop-rest
invariant-loop-rest g l = (sent : List ℕ)
    × (l.text ≡ sent ++ l.rest) × Appends (g.W.Sink.contents l.fn.sink) (g.W.Sink.contents l.sink) sent

abbrev pub decreases-loop-rest : goal.decreases-loop-rest
decreases-loop-rest g l = length l.rest
