-- Fields of rows, by the names that the tables of RFC 9022's objects have here.
use Rattle.std.specs.Prelude.{ℕ, ◌-◌, Bool, not, ◌==◌, ◌&&◌, if◌then◌else◌, List, [], map}
use Rattle.std.specs.Prelude.{length, take, slice_index}
use Rattle.std.specs.List.{list_any}
use Rattle.std.specs.Option.{unwrap_or}
use Rattle.std.specs.Map.{lookup}
use Rattle.std.specs.Str.{bytes_eq}
use Rattle.std.specs.Char.{to_ascii_lowercase}
use Rattle.esc_tables.specs.ObjectValue.{RowValue}

-- the text of a field in a row: that of its first cell, and empty where there is none
abbrev pub first_text : List ℕ → RowValue → List ℕ
first_text field r = unwrap_or (lookup (bytes_eq field) r.cells) []

-- whether a row has a text in a field
abbrev pub has_text : List ℕ → RowValue → Bool
has_text field r = not (length (first_text field r) == 0)

-- a text with ASCII letters in lower case
abbrev pub lowered : List ℕ → List ℕ
lowered text = map to_ascii_lowercase text

-- a text without one dot at its end
abbrev pub without_dot : List ℕ → List ℕ
without_dot text = if slice_index text (length text - 1) == 46 then take (length text - 1) text
    else text

-- a text as names are compared (RFC 4343): in lower case, without one dot at its end
abbrev pub normal : List ℕ → List ℕ
normal text = lowered (without_dot text)

-- whether a row of this table has this word in this field, letters of either case
abbrev pub has_word : List ℕ → List ℕ → List ℕ → RowValue → Bool
has_word table field word r = bytes_eq r.table table && bytes_eq (lowered (first_text field r)) (lowered word)

-- whether a child row of an object has this word in this field of this table
abbrev pub has_child_word : List ℕ → List ℕ → List ℕ → List RowValue → Bool
has_child_word table field word rows = list_any (has_word table field word) rows
