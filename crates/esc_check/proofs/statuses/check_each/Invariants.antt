use Rattle.std.proofs.Common.{◌≡◌, ◌++◌, drop, map}
use Rattle.std.specs.List.{flat_map}
use Rattle.esc_check.specs.Gathered.{one_unknown}
use Rattle.esc_check.proofs.statuses.check_each.Given as goal

abbrev pub invariant-loop-status : goal.invariant-loop-status
invariant-loop-status l =
    l.found.items ++ flat_map (one_unknown l.key) (map (λ s. s.now) (drop l.status-index l.statuses))
    ≡ l.fn.found.items ++ flat_map (one_unknown l.key) (map (λ s. s.now) l.statuses)
