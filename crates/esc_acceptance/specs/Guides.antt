-- The fields by which links, statuses and dates go, and how a declared table has them (RFC 9022,
-- RFC 5731 to 5733, and this project's profile).
use Rattle.std.specs.Prelude.{◌≡◌, ℕ, List, [], ◌∷◌, map, filter, take, drop, length}
use Rattle.std.specs.Prelude.{Bool, true, false, not, ◌&&◌, ◌||◌, ◌==◌, nat_lt, codes}
use Rattle.std.specs.Prelude.{if◌then◌else◌, is_some}
use Rattle.std.specs.List.{list_any, list_all}
use Rattle.std.specs.Map.{lookup}
use Rattle.std.specs.Str.{bytes_eq}
use Rattle.std.specs.Char.{to_ascii_lowercase}
use Rattle.esc_envelope.specs.declared.kind.Kind.{Kind}
use Rattle.esc_envelope.specs.declared.kind.Kind.TheVariants as kind
use Rattle.esc_envelope.specs.EnvelopeValue.{TableValue}
use Rattle.esc_envelope.specs.Kinds.{is_kind}
use Rattle.esc_tables.specs.ObjectValue.{RowValue}
use Rattle.esc_apply.specs.ObjectStreams.{Entry}
use Rattle.esc_acceptance.specs.declared.coverage.Coverage.{Coverage}
use Rattle.esc_acceptance.specs.declared.guide.Guide.{Guide}
use Rattle.esc_acceptance.specs.declared.guide.Guide.TheVariants.{RegistrarCreation, ContactSponsor}
use Rattle.esc_acceptance.specs.declared.guide.Guide.TheVariants.{ContactCreation, ContactStatus}
use Rattle.esc_acceptance.specs.declared.guide.Guide.TheVariants.{HostSponsor, HostCreation}
use Rattle.esc_acceptance.specs.declared.guide.Guide.TheVariants.{HostStatus, DomainSponsor}
use Rattle.esc_acceptance.specs.declared.guide.Guide.TheVariants.{DomainRegistrant, DomainTable}
use Rattle.esc_acceptance.specs.declared.guide.Guide.TheVariants.{DomainCreation, DomainExpiry}
use Rattle.esc_acceptance.specs.declared.guide.Guide.TheVariants.{DomainContact, DomainHost}
use Rattle.esc_acceptance.specs.declared.guide.Guide.TheVariants.{DomainStatus, NndnTable}

-- all of them
unfoldable pub guides : List Guide
guides =
    RegistrarCreation ∷ ContactSponsor ∷ ContactCreation ∷ ContactStatus ∷ HostSponsor ∷
    HostCreation ∷ HostStatus ∷ DomainSponsor ∷ DomainRegistrant ∷ DomainTable ∷ DomainCreation ∷
    DomainExpiry ∷ DomainContact ∷ DomainHost ∷ DomainStatus ∷ NndnTable ∷ []

-- the kind of the objects that have it
abbrev pub guide_kind : Guide → Kind
guide_kind RegistrarCreation = kind.Registrar
guide_kind ContactSponsor = kind.Contact
guide_kind ContactCreation = kind.Contact
guide_kind ContactStatus = kind.Contact
guide_kind HostSponsor = kind.Host
guide_kind HostCreation = kind.Host
guide_kind HostStatus = kind.Host
guide_kind DomainSponsor = kind.Domain
guide_kind DomainRegistrant = kind.Domain
guide_kind DomainTable = kind.Domain
guide_kind DomainCreation = kind.Domain
guide_kind DomainExpiry = kind.Domain
guide_kind DomainContact = kind.Domain
guide_kind DomainHost = kind.Domain
guide_kind DomainStatus = kind.Domain
guide_kind NndnTable = kind.Nndn

-- the name of the child table that has it; nothing where the parent rows do
abbrev pub child_name : Guide → List ℕ
child_name RegistrarCreation = []
child_name ContactSponsor = []
child_name ContactCreation = []
child_name ContactStatus = codes "contactStatuses"
child_name HostSponsor = []
child_name HostCreation = []
child_name HostStatus = codes "hostStatuses"
child_name DomainSponsor = []
child_name DomainRegistrant = []
child_name DomainTable = []
child_name DomainCreation = []
child_name DomainExpiry = []
child_name DomainContact = codes "domainContacts"
child_name DomainHost = codes "domainNs"
child_name DomainStatus = codes "domainStatuses"
child_name NndnTable = []

-- the name of the field
abbrev pub guide_field_name : Guide → List ℕ
guide_field_name RegistrarCreation = codes "crDate"
guide_field_name ContactSponsor = codes "clID"
guide_field_name ContactCreation = codes "crDate"
guide_field_name ContactStatus = codes "status"
guide_field_name HostSponsor = codes "clID"
guide_field_name HostCreation = codes "crDate"
guide_field_name HostStatus = codes "status"
guide_field_name DomainSponsor = codes "clID"
guide_field_name DomainRegistrant = codes "registrant"
guide_field_name DomainTable = codes "idnTableId"
guide_field_name DomainCreation = codes "crDate"
guide_field_name DomainExpiry = codes "exDate"
guide_field_name DomainContact = codes "contactId"
guide_field_name DomainHost = codes "hostName"
guide_field_name DomainStatus = codes "status"
guide_field_name NndnTable = codes "idnTableId"

-- whether it leads to IDN tables, which a registry may be without
abbrev pub leads_to_idn : Guide → Bool
leads_to_idn RegistrarCreation = false
leads_to_idn ContactSponsor = false
leads_to_idn ContactCreation = false
leads_to_idn ContactStatus = false
leads_to_idn HostSponsor = false
leads_to_idn HostCreation = false
leads_to_idn HostStatus = false
leads_to_idn DomainSponsor = false
leads_to_idn DomainRegistrant = false
leads_to_idn DomainTable = true
leads_to_idn DomainCreation = false
leads_to_idn DomainExpiry = false
leads_to_idn DomainContact = false
leads_to_idn DomainHost = false
leads_to_idn DomainStatus = false
leads_to_idn NndnTable = true

-- ---- a table that has it

-- whether the parent rows have it
abbrev pub is_of_parents : Guide → Bool
is_of_parents g = length (child_name g) == 0

-- whether a declared table is the one that has it
abbrev pub is_its_table : Guide → TableValue → Bool
is_its_table g t = is_kind t.kind (guide_kind g)
    && (if is_of_parents g then t.parent else (not t.parent && bytes_eq t.name (child_name g)))

-- whether a declared table has a field
abbrev pub has_field : List ℕ → TableValue → Bool
has_field field t = list_any (λ f. bytes_eq f field) t.fields

-- whether it is declared
abbrev pub is_guide_declared : List TableValue → Guide → Bool
is_guide_declared tables g =
    list_any (λ t. is_its_table g t && has_field (guide_field_name g) t) tables

-- whether a row has a field
abbrev pub has_cell : List ℕ → RowValue → Bool
has_cell field r = is_some (lookup (bytes_eq field) r.cells)

-- whether an object has it, if it is of the kind that does: its parent row, or each child row of
-- that table
abbrev pub has_guide : Guide → Entry → Bool
has_guide g e = not (is_kind e.0.kind (guide_kind g))
    || (if is_of_parents g then has_cell (guide_field_name g) e.1.parent
    else list_all (λ r. not (bytes_eq r.table (child_name g)) || has_cell (guide_field_name g) r)
    e.1.children)

-- the guides that some of these objects lacks
abbrev pub lacking_guides : List Entry → List Guide
lacking_guides es = filter (λ g. not (list_all (has_guide g) es)) guides

-- it is kept which guides each of these objects has
pub record IsCoverageOf (es : List Entry) (c : Coverage) : Type 0 where
  pub common : c.common.items ≡ filter (λ g. list_all (has_guide g) es) guides

-- whether there are objects of a kind
abbrev pub has_objects : List (Kind × ℕ) → Kind → Bool
has_objects objects k = list_any (λ c. is_kind c.0 k && nat_lt 0 c.1) objects

-- whether it is to be declared: there are objects of its kind, and IDN tables if it leads to them
abbrev pub is_wanted : List (Kind × ℕ) → Guide → Bool
is_wanted objects g = has_objects objects (guide_kind g)
    && (not (leads_to_idn g) || has_objects objects kind.Idn)

-- ---- a table that looks as if it had it

-- whether a byte is one of the signs that names of tables and fields have beside letters and digits
abbrev pub is_name_sign : ℕ → Bool
is_name_sign b = (b == 46) || ((b == 95) || (b == 45))

-- a name without signs and in lower case
abbrev pub folded : List ℕ → List ℕ
folded name = map to_ascii_lowercase (filter (λ b. not (is_name_sign b)) name)

-- whether a name is folded to another in lower case
abbrev pub folds_to : List ℕ → List ℕ → Bool
folds_to name wanted = bytes_eq (folded name) (map to_ascii_lowercase wanted)

-- whether a name is another but for case and signs, and an f before it as in the names of RFC 9022
abbrev pub looks_like : List ℕ → List ℕ → Bool
looks_like name wanted = folds_to name wanted
    || (folds_to (take 1 name) (codes "f") && folds_to (drop 1 name) wanted)

-- whether a name looks like another, and isn't that
abbrev pub is_disguised : List ℕ → List ℕ → Bool
is_disguised name wanted = not (bytes_eq name wanted) && looks_like name wanted

-- the name that RFC 9022 gives to the table of a domain's hosts
abbrev pub name_servers : List ℕ
name_servers = codes "domainNameServers"

-- whether a child table looks like another by its name; that of a domain's hosts also by the name
-- that RFC 9022 gives it
abbrev pub is_disguised_table : List ℕ → List ℕ → Bool
is_disguised_table name wanted = is_disguised name wanted
    || (bytes_eq wanted (codes "domainNs") && looks_like name name_servers)

-- whether some field of a table looks like a field
abbrev pub has_disguised_field : List ℕ → TableValue → Bool
has_disguised_field field t = list_any (λ f. is_disguised f field) t.fields

-- whether a declared table is the one that has it, and has a field that looks like it
abbrev pub has_disguise : Guide → TableValue → Bool
has_disguise g t = is_its_table g t && has_disguised_field (guide_field_name g) t

-- whether a declared child table looks like the one that has it
abbrev pub stands_for_its_table : Guide → TableValue → Bool
stands_for_its_table g t = not (is_of_parents g)
    && (is_kind t.kind (guide_kind g)
    && (not t.parent && is_disguised_table t.name (child_name g)))

-- whether a declared table has it under another name, or is its table under another name
abbrev pub is_disguise : Guide → TableValue → Bool
is_disguise g t = has_disguise g t || stands_for_its_table g t
