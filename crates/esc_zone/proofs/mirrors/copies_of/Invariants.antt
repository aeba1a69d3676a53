use Rattle.std.proofs.Common.{◌≡◌, take}
use Rattle.esc_zone.proofs.mirrors.copies_of.Given as goal

abbrev pub invariant-loop-name : goal.invariant-loop-name
invariant-loop-name l = l.copies.items ≡ take l.name-index l.names
