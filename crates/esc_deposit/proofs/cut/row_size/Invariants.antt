use Rattle.std.proofs.Common.{◌≡◌, ℕ, List, take}
use Rattle.std.specs.List.{sum_by}
use Rattle.esc_apply.specs.Registry.{saturated}
use Rattle.esc_deposit.specs.Cuts.{text_bound}
use Rattle.esc_deposit.proofs.cut.row_size.Given as goal

-- the cells so far
abbrev pub invariant-loop-at : goal.invariant-loop-at
invariant-loop-at l = l.bytes ≡ saturated (sum_by (λ (c : List ℕ × List ℕ). text_bound c.1) (take l.at l.row.cells))
