-- What a plan says of a move to another chain, and what is kept once it was carried out.
use Rattle.std.specs.Prelude.{◌≡◌, ℤ, ℕ, ◌<◌, ◌^◌, List, ◌++◌, Option, slice_index, length, map}
use Rattle.std.specs.Prelude.{take, drop, sum_by}
use Rattle.std.specs.FinSet as set
use Rattle.esc_tables.specs.DepositValue.{DepositValue}
use Rattle.esc_tables.specs.Reading.{reading}
use Rattle.esc_manifest.specs.declared.row.MRow.{MRow}
use Rattle.esc_manifest.specs.Accepted.{IsAccepted}
use Rattle.esc_chain.specs.Chain.{InRange, IsLatestChainAt}
use Rattle.esc_apply.specs.declared.front.Step.{Step}
use Rattle.esc_apply.specs.Front.{common_front}
use Rattle.esc_apply.specs.Images.{chain_state}
use Rattle.esc_apply.specs.Moves.{cost}
use Rattle.esc_apply.specs.Tables.{mention_count}
use Rattle.esc_apply.specs.declared.moves.Work.{Work}
use Rattle.esc_store.specs.StoreState.{StoreState, step_at, with_steps, with_registry}
use Rattle.esc_events.specs.declared.plan.Plan.{Plan}
use Rattle.esc_events.specs.StateAfter.{deposits_of}

-- each of these rows is a row of the manifest
abbrev pub AllInRange : List MRow → List ℕ → Type 0
AllInRange m rows = (i : ℕ) → i < length rows → slice_index rows i < length m

-- the rows of steps
abbrev pub rows_in_steps : List Step → List ℕ
rows_in_steps steps = map (λ (s : Step). s.row) steps

-- the rows of a plan's new chain
abbrev pub new_chain : Plan → List ℕ
new_chain plan = rows_in_steps plan.new.items

-- how many steps both chains of a plan begin with
abbrev pub front_of : Plan → ℕ
front_of plan = common_front plan.old.items plan.new.items

-- these are the steps of the latest chain of these rows of an accepted manifest up to a moment
pub record AreLatestSteps (m : List MRow) (rows : List ℕ) (moment : Option ℤ)
    (steps : List Step) : Type 0 where
  pub are_steps : steps ≡ map (step_at m) (rows_in_steps steps)
  pub accepted : IsAccepted m
  pub in_range : InRange m (set.from_list rows)
  pub latest : IsLatestChainAt m (set.from_list rows) moment (rows_in_steps steps)

-- the deposits of a plan's new steps past the common front, by the bodies that are held
abbrev pub deposits_past : Plan → (ℕ → Option (List ℕ)) → List DepositValue
deposits_past plan bodies =
    deposits_of reading bodies (rows_in_steps (drop (front_of plan) plan.new.items))

-- what is kept once a plan was carried out: the plan's new chain, and the tables and before-images
-- of that chain, where c are the deposits of the old chain
abbrev pub moved_by : Plan → StoreState → List DepositValue → StoreState
moved_by plan k c =
    with_registry (with_steps k (new_chain plan))
    (chain_state (take (front_of plan) c ++ deposits_past plan k.bodies))

-- the chain that is kept is a plan's old one, whose deposits are c, and the tables and
-- before-images are those of that chain
pub record IsMovedFrom (k : StoreState) (c : List DepositValue) (plan : Plan) : Type 0 where
  pub steps : k.steps ≡ rows_in_steps plan.old.items
  pub count : length c ≡ length plan.old.items
  pub registry : k.registry ≡ chain_state c

-- this is the cost of a plan's move by the bodies that are held, where c are the deposits of the
-- old chain; nothing is said if c and the deposits past the common front mention 2^64 keys or more
abbrev pub IsCostOfMove : Plan → (ℕ → Option (List ℕ)) → List DepositValue → Work → Type 0
IsCostOfMove plan bodies c work =
    let past = deposits_past plan bodies in
    sum_by mention_count (c ++ past) < 2 ^ 64 → work ≡ cost c plan.old.items plan.new.items past
