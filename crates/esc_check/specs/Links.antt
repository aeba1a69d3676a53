-- The links between objects (this project's profile of RFC 9022).
use Rattle.std.specs.Prelude.{◌≡◌, ◌≢◌, ◌⊎◌, [], Some}
use Rattle.std.specs.List.{Contains}
use Rattle.esc_tables.specs.KeyName.{KeyName}
use Rattle.esc_tables.specs.ObjectValue.{RowValue, ObjectValue}
use Rattle.esc_apply.specs.Registry.{ObjectsByKey}
use Rattle.esc_check.specs.declared.field.LinkField.{LinkField}
use Rattle.esc_check.specs.Fields.{cell, field_name, parent_fields, child_field}
use Rattle.esc_check.specs.LinkValue.{LinkValue, link_to_name}

-- a row of an object has a link by this field, whose text isn't empty
abbrev pub LinksBy : KeyName → RowValue → LinkField → LinkValue → Type 0
LinksBy k r g l = (cell (field_name g) r ≢ []) × (l ≡ link_to_name k g (cell (field_name g) r))

-- an object has a link by its parent row, or by a child row
abbrev pub IsLinkOf : KeyName → ObjectValue → LinkValue → Type 0
IsLinkOf k o l =
    ((g : LinkField) × Contains (parent_fields k.kind) g × LinksBy k o.parent g l)
    ⊎ ((r : RowValue) × (g : LinkField) × Contains o.children r
    × (child_field k.kind r.table ≡ Some g) × LinksBy k r g l)

-- an object of the tables has the link
abbrev pub HasLink : ObjectsByKey → LinkValue → Type 0
HasLink t l = (o : ObjectValue) × (t l.from ≡ Some o) × IsLinkOf l.from o l
