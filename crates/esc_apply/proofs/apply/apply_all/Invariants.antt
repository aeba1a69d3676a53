use Rattle.std.proofs.Common.{◌≡◌, ◌+◌, ◌++◌, List, length, take, sum_by}
use Rattle.esc_tables.specs.DepositValue.{DepositValue}
use Rattle.esc_apply.specs.Tables.{mention_count}
use Rattle.esc_apply.specs.Registry.{saturated}
use Rattle.esc_apply.specs.Images.{chain_state}
use Rattle.esc_apply.proofs.apply.apply_all.Given as goal

abbrev pub invariant-loop-deposit : goal.invariant-loop-deposit
invariant-loop-deposit g l =
    let registry = g.R.Registry in
    let done = take l.deposit-index l.deposits in
    record {
      at : l.pos ≡ l.steps + l.deposit-index;
      follows : registry.follows l.fn.registry l.registry;
      number : l.writes ≡ saturated (0 + sum_by mention_count done);
      counted : registry.count l.registry ≡ saturated (registry.count l.fn.registry + sum_by mention_count done);
      chain : registry.is_honest l.registry
          → (c : List DepositValue) → length c ≡ l.steps → registry.holds l.fn.registry (chain_state c)
          → registry.holds l.registry (chain_state (c ++ done));
    }
