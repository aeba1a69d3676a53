use Rattle.std.proofs.Common.{◌≡◌, ◌+◌, drop, length}
use Rattle.esc_apply.specs.Registry.{State, restored, saturated, IsEntriesOf}
use Rattle.esc_apply.specs.ChangeLaws.{Returns}
use Rattle.esc_apply.proofs.undo.undo_step.Given as goal

abbrev pub invariant-loop-entry : goal.invariant-loop-entry
invariant-loop-entry g l =
    let registry = g.R.Registry in
    let left = drop l.entry-index l.entry-items in
    record {
      follows : registry.follows l.fn.registry l.registry;
      counted : saturated (registry.count l.registry + length left)
          ≡ saturated (registry.count l.fn.registry + length l.entry-items);
      returns : registry.is_honest l.registry
          → (s : State) → registry.holds l.fn.registry s → IsEntriesOf (s.undo l.pos) l.entry-items
          × Returns (registry.holds l.registry) (restored s l.pos) left;
    }
