-- What a registry in memory contains.
use Rattle.std.specs.Prelude.{◌≡◌, ℕ, List, Option}
use Rattle.std.specs.BTreeMap.{BTreeMap}
use Rattle.std.specs.Map.{lookup}
use Rattle.std.specs.Option.{option_and_then}
use Rattle.std.specs.Ordering.{nat_cmp, eq_by_cmp}
use Rattle.esc_tables.specs.KeyName.{KeyName, key_eq}
use Rattle.esc_tables.specs.ObjectValue.{ObjectValue}
use Rattle.esc_apply.specs.Registry.{State}

-- what was noted for a step, by key
abbrev pub Notes : Type 0
Notes = BTreeMap KeyName (Option ObjectValue)

-- what was noted of a key for step j, if anything was
abbrev pub noted_at : List (ℕ × Notes) → ℕ → KeyName → Option (Option ObjectValue)
noted_at notes j q = option_and_then (λ (n : Notes). lookup (key_eq q) n.entries)
    (lookup (eq_by_cmp nat_cmp j) notes)

-- the entries of its maps are the objects and the notes of a state
pub record Keeps (objects : List (KeyName × ObjectValue)) (notes : List (ℕ × Notes))
    (s : State) : Type 0 where
  pub content : (q : KeyName) → s.content q ≡ lookup (key_eq q) objects
  pub undo : (j : ℕ) (q : KeyName) → s.undo j q ≡ noted_at notes j q
