-- The common front of two lists of steps.
use Rattle.std.specs.Prelude.{◌≡◌, ℕ, ◌≤◌, Bool, ◌==◌, ◌&&◌, List, length, take, map}
use Rattle.std.specs.List.{take_while, zip}
use Rattle.std.specs.Ordering.{int_eq}
use Rattle.esc_envelope.specs.declared.place.Place.{Place}
use Rattle.esc_envelope.specs.Place.{rank}
use Rattle.esc_apply.specs.declared.front.Step.{Step}

-- what steps are compared by: place and resend
abbrev pub mark : Step → Place × ℕ
mark s = (s.place, s.resend)

-- both lists have at least n steps, and their first n are the same by place and resend
pub record IsCommon (old new : List Step) (n : ℕ) : Type 0 where
  pub in_old : n ≤ length old
  pub in_new : n ≤ length new
  pub same : map mark (take n old) ≡ map mark (take n new)

-- the number of steps that both lists have in common at their beginning
pub record IsCommonFront (old new : List Step) (f : ℕ) : Type 0 where
  pub common : IsCommon old new f
  pub longest : (n : ℕ) → IsCommon old new n → n ≤ f

-- the same place and resend
abbrev pub same_step : Step × Step → Bool
same_step (a, b) = int_eq a.place.watermark b.place.watermark
    && (rank a.place.kind == rank b.place.kind) && (a.resend == b.resend)

-- that number, computed: how many pairs of steps are the same, from the first pair on
abbrev pub common_front : List Step → List Step → ℕ
common_front old new = length (take_while same_step (zip old new))
