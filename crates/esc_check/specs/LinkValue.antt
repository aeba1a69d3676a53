-- Links as values.
use Rattle.std.specs.Prelude.{ℕ, List}
use Rattle.esc_tables.specs.KeyName.{KeyName}
use Rattle.esc_tables.specs.TableRow.{key_named}
use Rattle.esc_check.specs.declared.field.LinkField.{LinkField}
use Rattle.esc_check.specs.Fields.{field_target}

-- a link from the object with a key, by a field, to the object with another key
pub record LinkValue : Type 0 where
  pub from : KeyName
  pub field : LinkField
  pub to : KeyName

-- the link to the key with this text as its name
abbrev pub link_to_name : KeyName → LinkField → List ℕ → LinkValue
link_to_name k g text = record { from = k; field = g; to = key_named (field_target g) text }
