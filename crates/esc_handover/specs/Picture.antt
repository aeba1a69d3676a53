-- Where the places of a release stand in its picture, and which are shown together (this project's
-- profile).
use Rattle.std.specs.Prelude.{ℕ, ◌*◌, ◌/◌, ◌≤◌, min, List, Option, Some, None, ℤ, ◌-ℤ◌}
use Rattle.std.specs.Prelude.{◌≤ℤ◌}
use Rattle.std.specs.Prelude.{int_lt, Bool, not, ◌&&◌, ◌==◌, if◌then◌else◌, is_some}
use Rattle.std.specs.Int.RustNames.{unsigned_abs}
use Rattle.std.specs.List.{sum_by}
use Rattle.esc_envelope.specs.declared.place.DepositType.{DepositType}
use Rattle.esc_envelope.specs.Place.{rank}
use Rattle.esc_chain.specs.declared.gap.GapLine.{GapLine}
use Rattle.esc_chain.specs.declared.gap.State.{State}
use Rattle.esc_chain.specs.declared.gap.State.TheVariants as state
use Rattle.esc_handover.specs.declared.page.group.Grouping.{Grouping}
use Rattle.esc_handover.specs.declared.page.group.Grouping.TheVariants.{Marks, Runs}
use Rattle.esc_handover.specs.declared.page.group.Look.{Look}
use Rattle.esc_handover.specs.declared.page.group.Group.{Group}

-- a part of a whole in thousandths, rounded down; all of it where the part is greater
abbrev pub share : ℕ → ℕ → ℕ
share part whole = if whole == 0 then 0 else min part whole * 1000 / whole

-- how much later a moment is than another one, if it is later
abbrev pub since : ℤ → ℤ → ℕ
since first moment = if int_lt moment first then 0 else unsigned_abs (moment -ℤ first)

-- how far along an axis from one moment to another a moment stands, in thousandths of it
abbrev pub position : ℤ → ℤ → ℤ → ℕ
position first last moment = share (since first moment) (since first last)

-- on an axis each moment has its place, and a later one stands no further left
pub record IsAxis (first last : ℤ) : Type 0 where
  pub inside : (m : ℤ) → position first last m ≤ 1000
  pub in_order : (m n : ℤ) → m ≤ℤ n → position first last m ≤ position first last n

-- ---- what is shown together

-- whether two types are the same
abbrev pub is_type : DepositType → DepositType → Bool
is_type t u = rank t == rank u

-- a number for each state
abbrev pub state_rank : State → ℕ
state_rank state.Missing = 0
state_rank state.Blocked = 1
state_rank state.Chain = 2
state_rank state.Standing = 3

-- whether two states are the same
abbrev pub is_state : State → State → Bool
is_state s t = state_rank s == state_rank t

-- whether a place has a look
abbrev pub has_look : Look → GapLine → Bool
has_look look g = is_type g.place.kind look.kind
    && (is_state g.state look.state
    && (if look.is_awaited then is_some g.awaited else not (is_some g.awaited)))

-- which places are grouped
abbrev pub takes : Grouping → GapLine → Bool
takes (Marks look axis) g = has_look look g
takes (Runs kind) g = is_type g.place.kind kind

-- how many places are in a group, if there is one
abbrev pub places_in_group : Option Group → ℕ
places_in_group None = 0
places_in_group (Some group) = group.count

-- how many places are in groups
abbrev pub places_in : List Group → ℕ
places_in groups = sum_by (λ (g : Group). g.count) groups
