-- The rows of declared tables, and what each row has to be (this project's profile of RFC 9022's
-- CSV model).
use Rattle.std.specs.Prelude.{ℕ, List, [], length, map, Bool, true, false, ◌==◌, ◌&&◌, nat_lt}
use Rattle.std.specs.Prelude.{nat_le, if◌then◌else◌, count_by}
use Rattle.std.specs.Option.{option_map_or}
use Rattle.std.specs.List.{flat_map, find, list_all, list_any, zip}
use Rattle.std.specs.Str.{bytes_eq, is_utf8}
use Rattle.std.specs.Char.{to_ascii_lowercase}
use Rattle.esc_bundle.specs.Bundle.{Named}
use Rattle.esc_csv.specs.Records.{records_of, field}
use Rattle.esc_envelope.specs.declared.kind.Kind.{Kind}
use Rattle.esc_envelope.specs.declared.kind.Kind.TheVariants.{Registrar, Contact, Host, Domain, Idn}
use Rattle.esc_envelope.specs.declared.kind.Kind.TheVariants.{Nndn}
use Rattle.esc_envelope.specs.EnvelopeValue.{TableValue}
use Rattle.esc_tables.specs.KeyName.{KeyName}
use Rattle.esc_tables.specs.ObjectValue.{HeadingValue, RowValue}

-- a row of a table, as its fields
pub record TableRow : Type 0 where
  pub table : TableValue
  pub fields : List (List ℕ)

-- whether a table's file is one of these sections
abbrev pub is_there : List Named → TableValue → Bool
is_there files t = list_any (λ s. bytes_eq s.name t.file) files

-- whether a section is the file of exactly one of these tables
abbrev pub is_declared : List TableValue → Named → Bool
is_declared tables s = count_by (λ t. bytes_eq t.file s.name) tables == 1

-- whether the file of each table is one of these sections, and each of them is the file of exactly
-- one table
abbrev pub are_filed : List Named → List TableValue → Bool
are_filed files tables = list_all (is_there files) tables && list_all (is_declared tables) files

-- the bytes of the section with this name; no bytes if there is no such section
abbrev pub bytes_named : List Named → List ℕ → List ℕ
bytes_named files name = option_map_or (λ s. s.bytes) (find (λ s. bytes_eq s.name name) files) []

abbrev pub in_table : TableValue → List (List ℕ) → TableRow
in_table t fields = record { table = t; fields = fields }

-- the rows of a table, read from its section
abbrev pub table_rows : List Named → TableValue → List TableRow
table_rows files t = map (in_table t) (records_of (bytes_named files t.file))

-- the rows of these tables, in the order of tables and rows
abbrev pub rows_in : List Named → List TableValue → List TableRow
rows_in files tables = flat_map (table_rows files) tables

-- whether a row has as many fields as its table declares, each of them UTF-8
abbrev pub is_whole : TableRow → Bool
is_whole r = (length r.fields == length r.table.fields) && list_all is_utf8 r.fields

-- the key field
abbrev pub key_field : TableRow → List ℕ
key_field r = field r.fields r.table.key

-- whether a row's key has 1 to 255 bytes
abbrev pub has_key : TableRow → Bool
has_key r = nat_lt 0 (length (key_field r)) && nat_le (length (key_field r)) 255

-- whether keys of a kind are names of the DNS, in which ASCII letters of either case are the same
abbrev pub is_dns : Kind → Bool
is_dns Registrar = false
is_dns Contact = false
is_dns Host = true
is_dns Domain = true
is_dns Idn = false
is_dns Nndn = false

-- the key with this kind and name: of a host or a domain in lower case
abbrev pub key_named : Kind → List ℕ → KeyName
key_named kind text = record {
  kind = kind;
  text = if is_dns kind then map to_ascii_lowercase text else text;
}

-- the key of the object that a row belongs to
abbrev pub key_of : TableRow → KeyName
key_of r = key_named r.table.kind (key_field r)

-- the heading of a table's rows: what they have in common
abbrev pub heading_of : TableValue → HeadingValue
heading_of t = record { name = t.name; fields = t.fields }

-- a row as its cells: each field with its text, as it is in the file
abbrev pub row_as_cells : TableRow → RowValue
row_as_cells r = record { table = r.table.name; cells = zip r.table.fields r.fields }

-- a row with the key of its object
abbrev pub keyed : TableRow → KeyName × RowValue
keyed r = (key_of r, row_as_cells r)
