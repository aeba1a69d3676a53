use Rattle.std.proofs.Common.{◌≡◌, take}
use Rattle.esc_conformity.specs.Marks.{marked}
use Rattle.esc_conformity.proofs.mark.marked.Given as goal

-- the bytes so far are marked
abbrev pub invariant-loop-byte : goal.invariant-loop-byte
invariant-loop-byte l = l.mark ≡ marked l.start (take l.byte-index l.bytes)
