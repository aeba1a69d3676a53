use Rattle.std.proofs.Common.{◌≡◌, take}
use Rattle.esc_read_only.specs.Noted.{noted_items}
use Rattle.esc_read_only.proofs.each.each.Given as goal

abbrev pub invariant-loop-byte : goal.invariant-loop-byte
invariant-loop-byte l = noted_items l.noted ≡ take l.byte-index l.bytes
