-- Changes of a registry, one after another.
use Rattle.std.specs.Prelude.{◌≡◌, ℕ, List, [], ◌∷◌, Option, Some, None}
use Rattle.std.specs.List.{IsDistinct, AllByRecursion}
use Rattle.std.specs.Map.{keys_of}
use Rattle.esc_tables.specs.KeyName.{KeyName, key_eq}
use Rattle.esc_tables.specs.ObjectValue.{ObjectValue}
use Rattle.esc_apply.specs.declared.registry.Keys.{Keys}
use Rattle.esc_apply.specs.declared.registry.Keys.TheVariants.{Vacant, Unknown}
use Rattle.esc_apply.specs.Registry.{State, written, changed}

-- a key, and the object to be put there, or none
abbrev pub Change : Type 0
Change = KeyName × Option ObjectValue

-- the change that puts an object at its key
abbrev pub with_object : KeyName × ObjectValue → Change
with_object e = (e.0, Some e.1)

-- the change that leaves no object at a key
abbrev pub without : KeyName → Change
without k = (k, None)

-- the state after each change in turn, where what was there before it is noted for step j
abbrev pub changed_by : State → ℕ → List Change → State
changed_by s j [] = s
changed_by s j (e ∷ es) = changed_by (changed s j e.0 e.1) j es

-- each key comes once, and nothing is noted of it for step j
pub record AreNew (s : State) (j : ℕ) (es : List Change) : Type 0 where
  pub once : IsDistinct key_eq (keys_of es)
  pub fresh : AllByRecursion (λ k. s.undo j k ≡ None) (keys_of es)

-- each key comes once, has no object, and nothing is noted of it for step j
pub record AreFirst (s : State) (j : ℕ) (es : List Change) : Type 0 where
  pub new : AreNew s j es
  pub free : AllByRecursion (λ k. s.content k ≡ None) (keys_of es)

-- these changes can be made as step j: their keys are new, and have no object where they are said
-- to be free
abbrev pub CanBePut : Keys → State → ℕ → List Change → Type 0
CanBePut Vacant s j es = AreFirst s j es
CanBePut Unknown s j es = AreNew s j es

-- the state after each change in turn, without notes
abbrev pub written_by : State → List Change → State
written_by s [] = s
written_by s (e ∷ es) = written_by (written s e.0 e.1) es
