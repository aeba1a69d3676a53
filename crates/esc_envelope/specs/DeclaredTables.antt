-- The tables that an envelope declares (this project's profile).
use Rattle.std.specs.Prelude.{◌≡◌, ◌<◌, ◌≤◌, ℕ, List, [], ◌∷◌, length, map, Bool, true, false}
use Rattle.std.specs.Prelude.{not}
use Rattle.std.specs.Prelude.{◌==◌, ◌&&◌, ◌||◌, nat_lt, nat_le, if◌then◌else◌, count_by, position}
use Rattle.std.specs.Prelude.{Option, Some, None, option_and_then, codes}
use Rattle.std.specs.List.{list_all, list_any}
use Rattle.std.specs.Str.{bytes_eq}
use Rattle.serde_json.specs.Data.{Data}
use Rattle.serde_json.specs.Find.{get, as_str}
use Rattle.esc_envelope.specs.declared.kind.Kind.{Kind}
use Rattle.esc_envelope.specs.EnvelopeValue.{TableValue}
use Rattle.esc_envelope.specs.Id.{is_id}
use Rattle.esc_envelope.specs.Kinds.{kinds, is_kind, kind_named}
use Rattle.esc_envelope.specs.Members.{text_at, array_in, if_id}
use Rattle.esc_envelope.specs.Sequences.{◌>>=◌}

-- the results of f for all elements, if each element has one
unfoldable pub all_of : {A B : Type 0} → (A → Option B) → List A → Option (List B)
all_of f [] = Some []
all_of f (x ∷ xs) = do
  y ← f x
  ys ← all_of f xs
  Some (y ∷ ys)

-- whether a text is among others
abbrev pub is_text_among : List ℕ → List (List ℕ) → Bool
is_text_among text others = list_any (λ other. bytes_eq other text) others

-- whether no text occurs twice
unfoldable pub are_distinct : List (List ℕ) → Bool
are_distinct [] = true
are_distinct (text ∷ others) = not (is_text_among text others) && are_distinct others

-- a byte of a table's name: A to Z, a to z, 0 to 9 or an underscore
abbrev pub is_table_name_byte : ℕ → Bool
is_table_name_byte b = (nat_le 65 b && nat_le b 90) || (nat_le 97 b && nat_le b 122)
    || (nat_le 48 b && nat_le b 57) || (b == 95)

-- 1 to 64 such bytes
abbrev pub is_table_name : List ℕ → Bool
is_table_name text = nat_lt 0 (length text) && nat_le (length text) 64
    && list_all is_table_name_byte text

abbrev pub if_name : List ℕ → Option (List ℕ)
if_name text = if is_table_name text then Some text else None

-- `name`: a table's name
abbrev pub name_of : Data → Option (List ℕ)
name_of json = option_and_then if_name (text_at (codes "name") json)

-- `kind`: the name of a kind
abbrev pub kind_of : Data → Option Kind
kind_of json = option_and_then kind_named (text_at (codes "kind") json)

abbrev pub is_parent_role : List ℕ → Option Bool
is_parent_role role = if bytes_eq role (codes "parent") then Some true else
    (if bytes_eq role (codes "child") then Some false else None)

-- `role`: `parent`, whose rows are the objects, or `child`
abbrev pub parent_of : Data → Option Bool
parent_of json = option_and_then is_parent_role (text_at (codes "role") json)

-- a field is a text of an id's form
abbrev pub field_of : Data → Option (List ℕ)
field_of value = option_and_then if_id (as_str value)

abbrev pub if_distinct : List (List ℕ) → Option (List (List ℕ))
if_distinct fields = if are_distinct fields then Some fields else None

-- 1 to 64 fields, none twice
abbrev pub fields_in : List Data → Option (List (List ℕ))
fields_in values = if nat_lt 0 (length values)
    && nat_le (length values) 64 then option_and_then if_distinct (all_of field_of values) else None

-- `fields`: an array of such fields
abbrev pub fields_of : Data → Option (List (List ℕ))
fields_of json = option_and_then fields_in (option_and_then array_in (get (codes "fields") json))

-- the index of a text among others, from 0
abbrev pub text_index : List (List ℕ) → List ℕ → Option ℕ
text_index texts text = position (λ other. bytes_eq other text) texts

-- `key`: the name of one of the fields, as its index from 0
abbrev pub key_index : Data → List (List ℕ) → Option ℕ
key_index json fields = option_and_then (text_index fields) (text_at (codes "key") json)

-- a declared table: its name and its fields have their forms, no field occurs twice, and the key is
-- one of them
pub record IsTable (t : TableValue) : Type 0 where
  pub named : is_table_name t.name ≡ true
  pub formed : list_all is_id t.fields ≡ true
  pub few : length t.fields ≤ 64
  pub distinct : are_distinct t.fields ≡ true
  pub keyed : t.key < length t.fields

-- the table that a declaration declares, or nothing if one of its members is not of its form
unfoldable pub table_of : Data → Option TableValue
table_of json = do
  name ← name_of json
  kind ← kind_of json
  parent ← parent_of json
  fields ← fields_of json
  key ← key_index json fields
  file ← text_at (codes "file") json
  Some (record {
    name = name;
    kind = kind;
    parent = parent;
    key = key;
    fields = fields;
    file = file;
  })

-- whether no name occurs twice
abbrev pub have_distinct_names : List TableValue → Bool
have_distinct_names tables = are_distinct (map (λ t. t.name) tables)

-- whether a table is the parent table of this kind
abbrev pub is_parent_of : Kind → TableValue → Bool
is_parent_of kind table = table.parent && is_kind kind table.kind

-- whether each kind has at most one parent table
abbrev pub have_one_parent : List TableValue → Bool
have_one_parent tables = list_all (λ kind. nat_le (count_by (is_parent_of kind) tables) 1) kinds

-- tables of contents: no two with the same name, and at most one parent table for each kind
abbrev pub AreContents : List TableValue → Type 0
AreContents tables = (have_distinct_names tables ≡ true) × (have_one_parent tables ≡ true)

-- tables of deletes: no two with the same name, and parent tables alone
abbrev pub AreDeletes : List TableValue → Type 0
AreDeletes tables = (have_distinct_names tables ≡ true) × (list_all (λ t. t.parent) tables ≡ true)

abbrev pub if_contents : List TableValue → Option (List TableValue)
if_contents tables = if have_distinct_names tables
    && have_one_parent tables then Some tables else None

abbrev pub if_deletes : List TableValue → Option (List TableValue)
if_deletes tables = if have_distinct_names tables
    && list_all (λ t. t.parent) tables then Some tables else None

-- the tables of contents: no two with the same name, and at most one parent table for each kind
abbrev pub contents_in : List Data → Option (List TableValue)
contents_in values = option_and_then if_contents (all_of table_of values)

-- the tables of deletes: no two with the same name, and parent tables alone
abbrev pub deletes_in : List Data → Option (List TableValue)
deletes_in values = option_and_then if_deletes (all_of table_of values)
