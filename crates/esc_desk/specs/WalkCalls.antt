-- A walk over the objects of the latest chain's tables, from call to call.
use Rattle.std.specs.Prelude.{◌≡◌, ℕ, Bool, true, List}
use Rattle.esc_events.specs.Events.{EventValue}
use Rattle.esc_desk.specs.declared.walk.Walk.{Walk}

-- what a walk reads, as it is now
abbrev pub walked_by : {R P : Type 0} → Walk R P → R
walked_by walk = walk.reader.now

-- where a walk stands
abbrev pub place_of : {R P : Type 0} → Walk R P → P
place_of walk = walk.place

-- the name of the reference by which a walk borrows what it reads
abbrev pub lent_as : {R P : Type 0} → Walk R P → ℕ
lent_as walk = walk.reader.ghost_name

-- whether a call of the walk has failed
abbrev pub has_failed : {R P : Type 0} → Walk R P → Bool
has_failed walk = walk.has_failed

abbrev pub HasFailed : {R P : Type 0} → Walk R P → Type 0
HasFailed walk = has_failed walk ≡ true

-- what a walk leaves as it was, whatever its calls return; and as long as none of them has failed,
-- the events are reflected that were
pub record WalkFollows {R P : Type 0} (Follows : R → R → Type 0)
    (Reflects : R → List EventValue → Type 0) (old new : Walk R P) : Type 0 where
  pub same_reference : lent_as new ≡ lent_as old
  pub same : Follows (walked_by old) (walked_by new)
  pub fails : HasFailed old → HasFailed new
  pub reflects : (HasFailed new → ⊥) → (e : List EventValue) → Reflects (walked_by old) e
      → Reflects (walked_by new) e
