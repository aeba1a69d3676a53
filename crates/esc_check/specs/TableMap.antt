-- The tables of a registry as a map from keys to objects.
use Rattle.std.specs.Prelude.{◌≡◌, ◌↔◌, ℕ, List, length, IsSome}
use Rattle.std.specs.List.{Contains, IsDistinct}
use Rattle.std.specs.Map.{lookup}
use Rattle.esc_envelope.specs.declared.kind.Kind.{Kind}
use Rattle.esc_tables.specs.KeyName.{KeyName, key_eq}
use Rattle.esc_apply.specs.ObjectStreams.{Entry}
use Rattle.esc_apply.specs.Registry.{ObjectsByKey}

-- the map that these entries make
abbrev pub content_of_entries : List Entry → ObjectsByKey
content_of_entries es q = lookup (key_eq q) es

-- these are the keys of all objects of a kind, each once
pub record AreKeysOfKind (t : ObjectsByKey) (kind : Kind) (keys : List KeyName) : Type 0 where
  pub once : IsDistinct key_eq keys
  pub each : (q : KeyName) → Contains keys q ↔ ((q.kind ≡ kind) × IsSome (t q))

-- n objects are of a kind
abbrev pub HasCount : ObjectsByKey → Kind → ℕ → Type 0
HasCount t kind n = (keys : List KeyName) × AreKeysOfKind t kind keys × (length keys ≡ n)
