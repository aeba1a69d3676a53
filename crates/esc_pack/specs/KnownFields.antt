-- The fields by which links, statuses and dates are found, by the names that the CSV model gives
-- them (RFC 9022, sections 4.6.2.2, 5.1.2, 5.2.2 and 5.3.2), and by the desk's.
use Rattle.std.specs.Prelude.{ℕ, List, [], ◌∷◌, Bool, true, ◌&&◌, ◌||◌, codes, Option, option_map}
use Rattle.std.specs.Prelude.{unwrap_or}
use Rattle.std.specs.List.{find}
use Rattle.std.specs.Str.{bytes_eq}
use Rattle.esc_pack.specs.declared.known_field.KnownField.{KnownField}
use Rattle.esc_pack.specs.declared.known_field.KnownField.TheVariants.{ClId, Registrant, IdnTableId}
use Rattle.esc_pack.specs.declared.known_field.KnownField.TheVariants.{CrDate, ExDate, Status}
use Rattle.esc_pack.specs.declared.known_field.KnownField.TheVariants.{ContactId, HostName}

-- all of them
unfoldable pub known_fields : List KnownField
known_fields =
    ClId ∷ Registrant ∷ IdnTableId ∷ CrDate ∷ ExDate ∷ Status ∷ ContactId ∷ HostName ∷ []

-- the name in a heading of the CSV model
abbrev pub model_name : KnownField → List ℕ
model_name ClId = codes "fClID"
model_name Registrant = codes "fRegistrant"
model_name IdnTableId = codes "fIdnTableId"
model_name CrDate = codes "fCrDate"
model_name ExDate = codes "fExDate"
model_name Status = codes "fStatus"
model_name ContactId = codes "fId"
model_name HostName = codes "fHostName"

-- the desk's name
abbrev pub desk_name : KnownField → List ℕ
desk_name ClId = codes "clID"
desk_name Registrant = codes "registrant"
desk_name IdnTableId = codes "idnTableId"
desk_name CrDate = codes "crDate"
desk_name ExDate = codes "exDate"
desk_name Status = codes "status"
desk_name ContactId = codes "contactId"
desk_name HostName = codes "hostName"

-- whether a table of this name has the field by this name: elsewhere `fId` is a contact's own, and
-- `fHostName` a host's
abbrev pub is_field_of : KnownField → List ℕ → Bool
is_field_of ContactId table = bytes_eq table (codes "domainContacts")
is_field_of HostName table = bytes_eq table (codes "domainNs")
is_field_of k table = true

-- the field that a name in a heading of a table stands for
abbrev pub known_field : List ℕ → List ℕ → Option KnownField
known_field table name =
    find (λ k. is_field_of k table && bytes_eq (model_name k) name) known_fields

-- the desk's name of what a heading of a table names; other names stay as they are
abbrev pub desk_field : List ℕ → List ℕ → List ℕ
desk_field table name = unwrap_or (option_map desk_name (known_field table name)) name

-- whether a name in a heading of a table is that of a declared field, or stands for it
abbrev pub names_field : List ℕ → List ℕ × List ℕ → Bool
names_field table p = bytes_eq p.0 p.1 || bytes_eq (desk_field table p.0) p.1
