-- The fields that are verified (this project's profile of RFC 9022).
use Rattle.std.specs.Prelude.{ℕ, Bool, true, false, if◌then◌else◌, List, [], ◌∷◌, Option, Some}
use Rattle.std.specs.Prelude.{None, codes}
use Rattle.std.specs.Option.{unwrap_or}
use Rattle.std.specs.Map.{lookup}
use Rattle.std.specs.Str.{bytes_eq}
use Rattle.esc_envelope.specs.declared.kind.Kind.{Kind}
use Rattle.esc_envelope.specs.declared.kind.Kind.TheVariants.{Registrar, Contact, Host, Domain, Idn}
use Rattle.esc_envelope.specs.declared.kind.Kind.TheVariants.{Nndn}
use Rattle.esc_tables.specs.KeyName.{KeyName}
use Rattle.esc_tables.specs.ObjectValue.{RowValue, ObjectValue}
use Rattle.esc_check.specs.declared.field.LinkField.{LinkField}
use Rattle.esc_check.specs.declared.field.LinkField.TheVariants.{ClId, Registrant, IdnTableId}
use Rattle.esc_check.specs.declared.field.LinkField.TheVariants.{ContactId, HostName}

-- the text of a field in a row: that of its first cell, and empty where there is none
abbrev pub cell : List ℕ → RowValue → List ℕ
cell field r = unwrap_or (lookup (bytes_eq field) r.cells) []

-- the name of a field that links
unfoldable pub field_name : LinkField → List ℕ
field_name ClId = codes "clID"
field_name Registrant = codes "registrant"
field_name IdnTableId = codes "idnTableId"
field_name ContactId = codes "contactId"
field_name HostName = codes "hostName"

-- the kind of the objects that a field names
abbrev pub field_target : LinkField → Kind
field_target ClId = Registrar
field_target Registrant = Contact
field_target IdnTableId = Idn
field_target ContactId = Contact
field_target HostName = Host

-- whether links lead to objects of a kind
abbrev pub is_target : Kind → Bool
is_target Registrar = true
is_target Contact = true
is_target Host = true
is_target Domain = false
is_target Idn = true
is_target Nndn = false

-- the fields of a parent row that link
abbrev pub parent_fields : Kind → List LinkField
parent_fields Registrar = []
parent_fields Contact = ClId ∷ []
parent_fields Host = ClId ∷ []
parent_fields Domain = ClId ∷ Registrant ∷ IdnTableId ∷ []
parent_fields Idn = []
parent_fields Nndn = IdnTableId ∷ []

-- whether a kind is that of domains
abbrev pub is_domain : Kind → Bool
is_domain Registrar = false
is_domain Contact = false
is_domain Host = false
is_domain Domain = true
is_domain Idn = false
is_domain Nndn = false

-- the field of a child row that links, by the row's table, if it has one
abbrev pub child_field : Kind → List ℕ → Option LinkField
child_field k table =
    if is_domain k then (if bytes_eq table (codes "domainContacts") then Some ContactId else if
    bytes_eq table (codes "domainNs") then Some HostName else None) else None

-- the name of the table with the statuses of a kind's objects, if there is one
abbrev pub status_table : Kind → Option (List ℕ)
status_table Registrar = None
status_table Contact = Some (codes "contactStatuses")
status_table Host = Some (codes "hostStatuses")
status_table Domain = Some (codes "domainStatuses")
status_table Idn = None
status_table Nndn = None

-- whether the date of creation of a kind's objects is verified
abbrev pub has_created : Kind → Bool
has_created Registrar = true
has_created Contact = true
has_created Host = true
has_created Domain = true
has_created Idn = false
has_created Nndn = false

-- the text of an object's date of creation, empty where there is none to verify
abbrev pub created : KeyName → ObjectValue → List ℕ
created k o = if has_created k.kind then cell (codes "crDate") o.parent else []

-- the text of a domain's date of expiry, empty where there is none
abbrev pub expires : KeyName → ObjectValue → List ℕ
expires k o = if is_domain k.kind then cell (codes "exDate") o.parent else []
