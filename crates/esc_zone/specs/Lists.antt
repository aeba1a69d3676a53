-- Lists by what is in them.
use Rattle.std.specs.Prelude.{◌≡◌, ◌↔◌, List, [], ◌∷◌, Option, MatchOption}
use Rattle.std.specs.List.{Contains, cons_option}
use Rattle.std.specs.List.Sorted.{IsStrictlySortedBy}
use Rattle.std.specs.declared.cmp.Ordering.{Ordering}

-- the same things, in order, each once
pub record IsOrderedOnce {X : Type 0} (cmp : X → X → Ordering) (given xs : List X) : Type 0 where
  pub order : IsStrictlySortedBy cmp xs
  pub same : (x : X) → Contains xs x ↔ Contains given x

-- what one thing gives by this relation: something, or nothing
abbrev pub GivesOne : {X Y : Type 0} → (X → Y → Type 0) → X → Option Y → Type 0
GivesOne {X} {Y} R x given = MatchOption given ((y : Y) → R x y → ⊥) (R x)

-- what each of these gives, in their order
abbrev pub GivesEach : {X Y : Type 0} → (X → Y → Type 0) → List X → List Y → Type 0
GivesEach R [] ys = ys ≡ []
GivesEach {X} {Y} R (x ∷ xs) ys =
    (given : Option Y) × (rest : List Y) × GivesOne R x given
    × (ys ≡ cons_option given rest) × GivesEach R xs rest

-- something gives itself, if this holds of it
abbrev pub Itself : {X : Type 0} → (X → Type 0) → X → X → Type 0
Itself P x y = (x ≡ y) × P x
