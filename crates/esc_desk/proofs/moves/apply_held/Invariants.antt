use Rattle.std.proofs.Common.{◌≡◌, ◌+◌, ◌++◌, ℕ, List, Option, length, take, sum_by}
use Rattle.esc_tables.specs.DepositValue.{DepositValue}
use Rattle.esc_tables.specs.Reading.{reading}
use Rattle.esc_apply.specs.Images.{chain_state}
use Rattle.esc_apply.specs.Registry.{saturated}
use Rattle.esc_apply.specs.Tables.{mention_count}
use Rattle.esc_store.specs.StoreState.{StoreState}
use Rattle.esc_store.specs.Representation.{IsHonest, HasMadeBooks, HasMadeTables, ChangeFollows}
use Rattle.esc_events.specs.Plans.{rows_in_steps}
use Rattle.esc_events.specs.StateAfter.{deposits_of}
use Rattle.esc_desk.specs.Edits.{IsAtHand}
use Rattle.esc_desk.proofs.moves.apply_held.Given as goal

-- the deposits of the steps so far are applied
abbrev pub invariant-loop-step : goal.invariant-loop-step
invariant-loop-step g l =
    let rows = rows_in_steps (take l.step-index l.steps) in
    record {
      at : l.pos ≡ l.front + l.step-index;
      follows : ChangeFollows g.S.Store l.fn.change l.change;
      left : (bodies : ℕ → Option (List ℕ)) → IsAtHand l.fn.at_hand bodies → IsAtHand l.at_hand bodies;
      counted : saturated l.change.count ≡ saturated (saturated l.fn.change.count + l.writes);
      number : IsHonest g.S.Store l.change.store.now → (before k : StoreState)
          → IsAtHand l.fn.at_hand k.bodies → HasMadeBooks g.S.Store l.fn.change before k
          → l.writes ≡ saturated (sum_by mention_count (deposits_of reading k.bodies rows));
      applied : IsHonest g.S.Store l.change.store.now
          → (before k : StoreState) (c : List DepositValue) → length c ≡ l.front
          → IsAtHand l.fn.at_hand k.bodies → HasMadeBooks g.S.Store l.fn.change before k
          → HasMadeTables g.S.Store l.fn.change (chain_state c)
          → HasMadeTables g.S.Store l.change (chain_state (c ++ deposits_of reading k.bodies rows));
    }
