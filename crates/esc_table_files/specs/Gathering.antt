-- Names, tables and columns that are gathered one after another.
use Rattle.std.specs.Prelude.{ℕ, Bool, false, if◌then◌else◌, List, [], ◌∷◌, ◌++◌, map, Option}
use Rattle.std.specs.Prelude.{Some, None}
use Rattle.std.specs.List.{list_any, fold, flat_map}
use Rattle.std.specs.Str.{bytes_eq}
use Rattle.esc_envelope.specs.declared.kind.Kind.{Kind}
use Rattle.esc_apply.specs.ObjectStreams.{Entry}
use Rattle.esc_table_files.specs.Layouts.{TableNameValue, LayoutValue, parent_table, child_table}
use Rattle.esc_table_files.specs.Layouts.{entry_fields}

-- these names, and one more at their end, unless it is among them
abbrev pub with_name : List (List ℕ) → List ℕ → List (List ℕ)
with_name names n = if list_any (bytes_eq n) names then names else names ++ n ∷ []

-- these names, and then the others, each added unless it is among those before it
abbrev pub with_names : List (List ℕ) → List (List ℕ) → List (List ℕ)
with_names names more = fold with_name names more

-- a table without columns but that of the key
abbrev pub bare : TableNameValue → LayoutValue
bare t = record { table = t; columns = [] }

-- a table, with the fields of an object's rows as further columns
abbrev pub with_fields : Entry → LayoutValue → LayoutValue
with_fields e l = record {
  table = l.table;
  columns = with_names l.columns (entry_fields l.table e);
}

-- a table, with the fields of these objects' rows as further columns
abbrev pub finished : List Entry → LayoutValue → LayoutValue
finished es l = record {
  table = l.table;
  columns = with_names l.columns (flat_map (entry_fields l.table) es);
}

-- the tables of a kind that has child rows of these names, without further columns
abbrev pub bare_tables : Kind → List (List ℕ) → List LayoutValue
bare_tables kind names = map bare (parent_table kind ∷ map (child_table kind) names)

-- whether it is this name
abbrev pub has_name : List ℕ → Option (List ℕ) → Bool
has_name n None = false
has_name n (Some m) = bytes_eq n m

-- whether a table has the child rows of this name
abbrev pub is_child : List ℕ → LayoutValue → Bool
is_child n l = has_name n l.table.child

-- these tables, and that of the child rows of a name at their end, unless it is among them
abbrev pub with_table : Kind → List LayoutValue → List ℕ → List LayoutValue
with_table kind ls n =
    if list_any (is_child n) ls then ls else ls ++ bare (child_table kind n) ∷ []

-- these tables, and then those of these names, each added unless it is among those before it
abbrev pub with_tables : Kind → List LayoutValue → List (List ℕ) → List LayoutValue
with_tables kind ls names = fold (with_table kind) ls names
