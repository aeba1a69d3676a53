use Rattle.std.proofs.Common.{◌≡◌, map, drop, string_bytes}
use Rattle.esc_envelope.specs.DeclaredTables.{are_distinct}
use Rattle.esc_envelope.proofs.texts.are_distinct.Given as goal

-- the texts so far occur once
abbrev pub invariant-loop-i : goal.invariant-loop-i
invariant-loop-i l = are_distinct (map string_bytes (drop l.i l.texts)) ≡ are_distinct (map string_bytes l.texts)
