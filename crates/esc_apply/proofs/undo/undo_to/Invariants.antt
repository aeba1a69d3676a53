use Rattle.std.proofs.Common.{◌≡◌, ◌+◌, ◌≤◌, List, length, take, drop, sum_by}
use Rattle.esc_tables.specs.DepositValue.{DepositValue}
use Rattle.esc_apply.specs.Tables.{mention_count}
use Rattle.esc_apply.specs.Registry.{saturated}
use Rattle.esc_apply.specs.Images.{chain_state}
use Rattle.esc_apply.proofs.undo.undo_to.Given as goal

abbrev pub invariant-loop-left : goal.invariant-loop-left
invariant-loop-left g l =
    let registry = g.R.Registry in
    record {
      above : l.front ≤ l.left;
      within : l.left ≤ l.steps;
      follows : registry.follows l.fn.registry l.registry;
      counted : registry.count l.registry ≡ saturated (registry.count l.fn.registry + l.writes);
      chain : registry.is_honest l.registry → (c : List DepositValue) → length c ≡ l.steps
          → registry.holds l.fn.registry (chain_state c) → registry.holds l.registry
          (chain_state (take l.left c)) × (l.writes ≡ saturated (sum_by mention_count (drop l.left c)));
    }

abbrev pub decreases-loop-left : goal.decreases-loop-left
decreases-loop-left g l = l.left
