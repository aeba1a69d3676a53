-- The tables that an agent's files are known to have, by the names that the CSV model of RFC 9022
-- gives to files (section 4.6), and the tables of this project's profile.
use Rattle.std.specs.Prelude.{ℕ, List, [], ◌∷◌, ◌++◌, Bool, true, false, codes}
use Rattle.std.specs.List.{list_any}
use Rattle.std.specs.Str.{bytes_eq}
use Rattle.esc_envelope.specs.declared.kind.Kind.{Kind}
use Rattle.esc_envelope.specs.declared.kind.Kind.TheVariants as kind
use Rattle.esc_pack.specs.declared.known_table.KnownTable.{KnownTable}
use Rattle.esc_pack.specs.declared.known_table.KnownTable.TheVariants.{RegistrarDeletes}
use Rattle.esc_pack.specs.declared.known_table.KnownTable.TheVariants.{ContactDeletes, HostDeletes}
use Rattle.esc_pack.specs.declared.known_table.KnownTable.TheVariants.{DomainDeletes}
use Rattle.esc_pack.specs.declared.known_table.KnownTable.TheVariants.{IdnLanguageDeletes}
use Rattle.esc_pack.specs.declared.known_table.KnownTable.TheVariants.{NndnDeletes, Registrar}
use Rattle.esc_pack.specs.declared.known_table.KnownTable.TheVariants.{Contact, ContactPostal}
use Rattle.esc_pack.specs.declared.known_table.KnownTable.TheVariants.{ContactStatuses}
use Rattle.esc_pack.specs.declared.known_table.KnownTable.TheVariants.{ContactTransfer}
use Rattle.esc_pack.specs.declared.known_table.KnownTable.TheVariants.{ContactDisclose, Host}
use Rattle.esc_pack.specs.declared.known_table.KnownTable.TheVariants.{HostAddresses, HostStatuses}
use Rattle.esc_pack.specs.declared.known_table.KnownTable.TheVariants.{Domain, DomainContacts}
use Rattle.esc_pack.specs.declared.known_table.KnownTable.TheVariants.{DomainNameServers}
use Rattle.esc_pack.specs.declared.known_table.KnownTable.TheVariants.{DomainNameServersAddresses}
use Rattle.esc_pack.specs.declared.known_table.KnownTable.TheVariants.{DomainStatuses}
use Rattle.esc_pack.specs.declared.known_table.KnownTable.TheVariants.{DomainTransfer, Dnssec}
use Rattle.esc_pack.specs.declared.known_table.KnownTable.TheVariants.{IdnLanguage, Nndn}

-- those of deletes
unfoldable pub deletes_tables : List KnownTable
deletes_tables =
    RegistrarDeletes ∷ ContactDeletes ∷ HostDeletes ∷ DomainDeletes ∷ IdnLanguageDeletes ∷
    NndnDeletes ∷ []

-- those of contents
unfoldable pub contents_tables : List KnownTable
contents_tables =
    Registrar ∷ Contact ∷ ContactPostal ∷ ContactStatuses ∷ ContactTransfer ∷ ContactDisclose ∷
    Host ∷ HostAddresses ∷ HostStatuses ∷ Domain ∷ DomainContacts ∷ DomainNameServers ∷
    DomainNameServersAddresses ∷ DomainStatuses ∷ DomainTransfer ∷ Dnssec ∷ IdnLanguage ∷ Nndn ∷ []

-- all of them; a file's name stands for one at most
abbrev pub known_tables : List KnownTable
known_tables = deletes_tables ++ contents_tables

-- the stem of its files' names: what they begin with, before a dash or a dot
abbrev pub file_stem : KnownTable → List ℕ
file_stem RegistrarDeletes = codes "registrar-delete"
file_stem ContactDeletes = codes "contact-delete"
file_stem HostDeletes = codes "host-delete"
file_stem DomainDeletes = codes "domain-delete"
file_stem IdnLanguageDeletes = codes "idnLanguage-delete"
file_stem NndnDeletes = codes "NNDN-delete"
file_stem Registrar = codes "registrar"
file_stem Contact = codes "contact"
file_stem ContactPostal = codes "contactPostal"
file_stem ContactStatuses = codes "contactStatuses"
file_stem ContactTransfer = codes "contactTransfer"
file_stem ContactDisclose = codes "contactDisclose"
file_stem Host = codes "host"
file_stem HostAddresses = codes "hostAddresses"
file_stem HostStatuses = codes "hostStatuses"
file_stem Domain = codes "domain"
file_stem DomainContacts = codes "domainContacts"
file_stem DomainNameServers = codes "domainNameServers"
file_stem DomainNameServersAddresses = codes "domainNameServersAddresses"
file_stem DomainStatuses = codes "domainStatuses"
file_stem DomainTransfer = codes "domainTransfer"
file_stem Dnssec = codes "dnssec"
file_stem IdnLanguage = codes "idnLanguage"
file_stem Nndn = codes "NNDN"

-- the name of the table that is declared: the stem of its files, but for these
abbrev pub table_name : KnownTable → List ℕ
table_name RegistrarDeletes = codes "registrar"
table_name ContactDeletes = codes "contact"
table_name HostDeletes = codes "host"
table_name DomainDeletes = codes "domain"
table_name IdnLanguageDeletes = codes "idn"
table_name NndnDeletes = codes "nndn"
table_name DomainNameServers = codes "domainNs"
table_name DomainNameServersAddresses = codes "domainHostAttr"
table_name Dnssec = codes "secDNS"
table_name IdnLanguage = codes "idn"
table_name Nndn = codes "nndn"
table_name k = file_stem k

-- the kind of its objects
abbrev pub table_kind : KnownTable → Kind
table_kind RegistrarDeletes = kind.Registrar
table_kind ContactDeletes = kind.Contact
table_kind HostDeletes = kind.Host
table_kind DomainDeletes = kind.Domain
table_kind IdnLanguageDeletes = kind.Idn
table_kind NndnDeletes = kind.Nndn
table_kind Registrar = kind.Registrar
table_kind Contact = kind.Contact
table_kind ContactPostal = kind.Contact
table_kind ContactStatuses = kind.Contact
table_kind ContactTransfer = kind.Contact
table_kind ContactDisclose = kind.Contact
table_kind Host = kind.Host
table_kind HostAddresses = kind.Host
table_kind HostStatuses = kind.Host
table_kind Domain = kind.Domain
table_kind DomainContacts = kind.Domain
table_kind DomainNameServers = kind.Domain
table_kind DomainNameServersAddresses = kind.Domain
table_kind DomainStatuses = kind.Domain
table_kind DomainTransfer = kind.Domain
table_kind Dnssec = kind.Domain
table_kind IdnLanguage = kind.Idn
table_kind Nndn = kind.Nndn

-- whether its rows are the keys of deleted objects
abbrev pub is_of_deletes : KnownTable → Bool
is_of_deletes RegistrarDeletes = true
is_of_deletes ContactDeletes = true
is_of_deletes HostDeletes = true
is_of_deletes DomainDeletes = true
is_of_deletes IdnLanguageDeletes = true
is_of_deletes NndnDeletes = true
is_of_deletes k = false

-- whether it is a parent table, with a row for each object or deleted key, and not a child table
abbrev pub is_parent : KnownTable → Bool
is_parent ContactPostal = false
is_parent ContactStatuses = false
is_parent ContactTransfer = false
is_parent ContactDisclose = false
is_parent HostAddresses = false
is_parent HostStatuses = false
is_parent DomainContacts = false
is_parent DomainNameServers = false
is_parent DomainNameServersAddresses = false
is_parent DomainStatuses = false
is_parent DomainTransfer = false
is_parent Dnssec = false
is_parent k = true

-- the names that the key of a kind's rows has in headings
abbrev pub key_names : Kind → List (List ℕ)
key_names kind.Registrar = codes "id" ∷ codes "fId" ∷ []
key_names kind.Contact = codes "id" ∷ codes "fId" ∷ []
key_names kind.Host = codes "name" ∷ codes "fName" ∷ codes "hostName" ∷ codes "fHostName" ∷ []
key_names kind.Domain =
    codes "name" ∷ codes "fName" ∷ codes "domainName" ∷ codes "fDomainName" ∷ []
key_names kind.Idn = codes "id" ∷ codes "fId" ∷ codes "idnTableId" ∷ codes "fIdnTableId" ∷ []
key_names kind.Nndn = codes "aName" ∷ codes "fAName" ∷ []

-- whether a field of this name has the key of a table's rows
abbrev pub is_key : KnownTable → List ℕ → Bool
is_key k field = list_any (λ name. bytes_eq field name) (key_names (table_kind k))
