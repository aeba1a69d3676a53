use Rattle.std.proofs.Common.{◌≡◌, ◌++◌, take}
use Rattle.esc_html.specs.Escape.{escaped}
use Rattle.esc_html.proofs.escape.push_escaped.Given as goal

-- what was there, and the bytes so far
abbrev pub invariant-loop-byte : goal.invariant-loop-byte
invariant-loop-byte l = l.bytes.items ≡ l.fn.bytes.items ++ escaped (take l.byte-index l.text)
