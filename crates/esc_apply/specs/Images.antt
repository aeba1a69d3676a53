-- A registry that holds a chain of deposits.
use Rattle.std.specs.Prelude.{ℕ, zero, suc, if◌then◌else◌, List, take, slice_get, Option, Some}
use Rattle.std.specs.Prelude.{None}
use Rattle.esc_tables.specs.DepositValue.{DepositValue}
use Rattle.esc_apply.specs.Tables.{mentions, tables}
use Rattle.esc_apply.specs.Registry.{State, Befores}

-- for each key that a deposit mentions, what the tables of the deposits before it have there;
-- nothing where there is no deposit
abbrev pub image_of : List DepositValue → Option DepositValue → Befores
image_of before None q = None
image_of before (Some d) q = if mentions q d then Some (tables before q) else None

-- the before-images of a list of deposits: for each step, from 1, and each key that its deposit
-- mentions, what the tables of the deposits before it have there
abbrev pub before_images : List DepositValue → ℕ → Befores
before_images c zero q = None
before_images c (suc i) q = image_of (take i c) (slice_get c i) q

-- the tables and the before-images of a list of deposits
abbrev pub chain_state : List DepositValue → State
chain_state c = record { content = tables c; undo = before_images c }
