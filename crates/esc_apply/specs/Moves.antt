-- What a move from one chain to another costs.
use Rattle.std.specs.Prelude.{ℕ, ◌+◌, ◌-◌, ◌&&◌, ◌==◌, nat_lt, Bool, if◌then◌else◌, List, []}
use Rattle.std.specs.Prelude.{length, drop, sum_by}
use Rattle.esc_tables.specs.DepositValue.{DepositValue}
use Rattle.esc_apply.specs.declared.front.Step.{Step}
use Rattle.esc_apply.specs.declared.moves.Work.{Work}
use Rattle.esc_apply.specs.Tables.{mention_count}
use Rattle.esc_apply.specs.Front.{common_front}

-- a chain is cleared if no step of it stays
abbrev pub is_cleared : ℕ → ℕ → Bool
is_cleared steps front = (front == 0) && nat_lt 0 steps

-- the deposits that are taken back one by one: those past the front, or none if all is cleared
abbrev pub undone_of : List DepositValue → ℕ → List DepositValue
undone_of c front = if is_cleared (length c) front then [] else drop front c

-- the work of going from n steps, of which the first `front` stay, to a chain that has `applied`
-- other steps after those, with this number of writes
abbrev pub work_of : ℕ → ℕ → ℕ → ℕ → Work
work_of steps front applied writes = record {
  cleared = is_cleared steps front;
  undone = (if is_cleared steps front then 0 else steps - front);
  applied = applied;
  writes = writes;
}

-- the cost of going from the old steps, whose deposits are c, to the new steps, whose deposits past
-- the common front are the last argument: one write for each key that a deposit mentions, of each
-- deposit that is taken back or applied
abbrev pub cost : List DepositValue → List Step → List Step → List DepositValue → Work
cost c old new deposits =
    let front = common_front old new in
    work_of (length old) front (length new - front)
    (sum_by mention_count (undone_of c front) + sum_by mention_count deposits)
