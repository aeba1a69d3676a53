-- A chain that one more row makes longer.
use Rattle.std.specs.Prelude.{◌≡◌, ℕ, ◌<◌, ℤ, List, length, map, Option, Some}
use Rattle.std.specs.FinSet as set
use Rattle.esc_manifest.specs.declared.row.MRow.{MRow}
use Rattle.esc_chain.specs.Chain.{Rows, InRange, IsLatestChainAt}
use Rattle.esc_chain.specs.AtEnd.{HasOneMore, LengthensLatest}
use Rattle.esc_apply.specs.declared.front.Step.{Step}
use Rattle.esc_store.specs.StoreState.{step_at}
use Rattle.esc_desk.specs.Reads.{last}

-- these are the steps of the latest chain, up to a moment, of these rows without row r
pub record IsChainWithout (m : List MRow) (rows : List ℕ) (t : Option ℤ) (r : ℕ)
    (steps : List Step) : Type 0 where
  pub others : Rows
  pub one_more : HasOneMore others rows r
  pub chain : List ℕ
  pub are_steps : steps ≡ map (step_at m) chain
  pub latest : IsLatestChainAt m others t chain

-- row r goes at the end of these steps, where they are those of the latest chain without it, and
-- there is room for it
pub record Lengthens (m : List MRow) (rows : List ℕ) (t : Option ℤ) (r : ℕ)
    (steps : List Step) : Type 0 where
  pub few : length steps < 4096
  pub listed : r < length m
  pub in_range : InRange m (set.from_list rows)
  pub end : Step
  pub last_is : last steps ≡ Some end
  pub lengthens : LengthensLatest m rows t end.place r
