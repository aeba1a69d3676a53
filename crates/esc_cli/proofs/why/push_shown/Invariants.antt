use Rattle.std.proofs.Common.{◌≡◌, ◌++◌, take, map}
use Rattle.esc_cli.specs.Why.{shown}
use Rattle.esc_cli.proofs.why.push_shown.Given as goal

-- what was there, and the bytes so far
abbrev pub invariant-loop-byte : goal.invariant-loop-byte
invariant-loop-byte l = l.line.items ≡ l.fn.line.items ++ map shown (take l.byte-index l.text)
