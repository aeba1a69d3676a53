-- What RFC 9022 requires of domains, hosts, contacts and registrars (sections 5.1 to 5.4), by the
-- names of this project's profile.
use Rattle.std.specs.Prelude.{ℕ, Bool, false, not, ◌&&◌, ◌||◌, List, [], ◌∷◌, codes}
use Rattle.std.specs.List.{list_any}
use Rattle.std.specs.Map.{lookup}
use Rattle.std.specs.Option.{option_map_or}
use Rattle.std.specs.Str.{bytes_eq}
use Rattle.esc_envelope.specs.declared.kind.Kind.{Kind}
use Rattle.esc_envelope.specs.declared.kind.Kind.TheVariants.{Registrar, Contact, Host, Domain, Idn}
use Rattle.esc_envelope.specs.declared.kind.Kind.TheVariants.{Nndn}
use Rattle.esc_envelope.specs.Kinds.{is_kind}
use Rattle.esc_tables.specs.ObjectValue.{RowValue}
use Rattle.esc_apply.specs.ObjectStreams.{Entry}
use Rattle.esc_check.specs.Fields.{cell, status_table}
use Rattle.esc_check.specs.Gathered.{is_empty_text}

-- whether a row has no text in a field
abbrev pub lacks : RowValue → List ℕ → Bool
lacks r field = is_empty_text (cell field r)

-- whether a row has a field, and no text in it
abbrev pub is_void : RowValue → List ℕ → Bool
is_void r field = option_map_or is_empty_text (lookup (bytes_eq field) r.cells) false

-- the fields of a parent row that have a text
abbrev pub required_fields : Kind → List (List ℕ)
required_fields Registrar = codes "id" ∷ codes "name" ∷ []
required_fields Contact = codes "id" ∷ codes "roid" ∷ []
required_fields Host = codes "name" ∷ codes "roid" ∷ []
required_fields Domain = codes "name" ∷ codes "roid" ∷ []
required_fields Idn = []
required_fields Nndn = []

-- whether a parent row lacks one of them
abbrev pub lacks_field : Kind → RowValue → Bool
lacks_field kind r = list_any (lacks r) (required_fields kind)

-- the fields of a parent row that have a text where they are: that they are is asked by `fields`
abbrev pub sponsor_fields : Kind → List (List ℕ)
sponsor_fields Registrar = []
sponsor_fields Contact = codes "clID" ∷ []
sponsor_fields Host = codes "clID" ∷ []
sponsor_fields Domain = codes "clID" ∷ []
sponsor_fields Idn = []
sponsor_fields Nndn = []

-- whether one of them has none
abbrev pub lacks_sponsor : Kind → RowValue → Bool
lacks_sponsor kind r = list_any (is_void r) (sponsor_fields kind)

-- whether a row is of a table, and has a status
abbrev pub has_status_of : List ℕ → RowValue → Bool
has_status_of table r = bytes_eq r.table table && not (lacks r (codes "status"))

-- whether none of an object's rows has a status, if its kind has statuses
abbrev pub lacks_status : Kind → List RowValue → Bool
lacks_status kind rows =
    option_map_or (λ t. not (list_any (has_status_of t) rows)) (status_table kind) false

-- whether a row is a postal address with a name, a city and a country
abbrev pub has_postal : RowValue → Bool
has_postal r = bytes_eq r.table (codes "contactPostal")
    && not (list_any (lacks r) (codes "name" ∷ codes "city" ∷ codes "cc" ∷ []))

-- whether a contact has no such row
abbrev pub lacks_postal : Kind → List RowValue → Bool
lacks_postal kind rows = is_kind kind Contact && not (list_any has_postal rows)

-- whether an object lacks something that is required of its kind
abbrev pub lacks_required : Entry → Bool
lacks_required e = lacks_field e.0.kind e.1.parent || (lacks_sponsor e.0.kind e.1.parent
    || (lacks_status e.0.kind e.1.children || lacks_postal e.0.kind e.1.children))
