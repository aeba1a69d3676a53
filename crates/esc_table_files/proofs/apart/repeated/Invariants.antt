use Rattle.std.proofs.Common.{◌≡◌, map, drop}
use Rattle.esc_table_files.specs.Apart.{are_apart}
use Rattle.esc_table_files.proofs.apart.repeated.Given as goal

-- those that are left decide
abbrev pub invariant-loop-at : goal.invariant-loop-at
invariant-loop-at l = are_apart (map (λ n. n.now) (drop l.at l.names)) ≡ are_apart (map (λ n. n.now) l.names)
