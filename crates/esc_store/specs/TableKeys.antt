-- The keys of a store's objects.
use Rattle.std.specs.Prelude.{ℕ, ℤ, List, IsSome, ◌↔◌}
use Rattle.std.specs.List.{Contains}
use Rattle.std.specs.List.Sorted.{IsStrictlySortedBy}
use Rattle.esc_envelope.specs.Kinds.{kind_rank}
use Rattle.esc_tables.specs.KeyName.{KeyName, key_cmp}
use Rattle.esc_apply.specs.Registry.{ObjectsByKey}
use Rattle.esc_store.specs.declared.reader.objects.TableKey.{TableKey}

abbrev pub key_at : TableKey → KeyName
key_at it = record { kind = it.kind; text = it.text.items }

-- the rowid of an object, the number of its kind and the bytes of its key's text
abbrev pub numbered_key : TableKey → ℤ × ℕ × List ℕ
numbered_key it = (it.rowid, kind_rank it.kind, it.text.items)

-- these are the keys of the objects, in their order
pub record AreKeysOf (content : ObjectsByKey) (keys : List KeyName) : Type 0 where
  pub order : IsStrictlySortedBy key_cmp keys
  pub each : (q : KeyName) → Contains keys q ↔ IsSome (content q)
