-- What is told of an object by its rowid and key alone, and the object that has a rowid.
use Rattle.std.specs.Prelude.{ℕ, ℤ, pos, List, Option, option_map}
use Rattle.sqlite_keyed.specs.Keyed.{get_by}
use Rattle.esc_sql.specs.Rows.{ObjectRow, object_number}
use Rattle.esc_sql.specs.Changes.{ObjectEntry, object_entry}

-- the rowid of an object, the number of its kind, and the bytes of its key's text
abbrev pub key_of_object : ObjectRow → ℤ × ℕ × List ℕ
key_of_object o = (pos o.id, o.kind, o.key)

-- the object in the row with this rowid, if there is one
abbrev pub object_with : ℤ → List ObjectRow → Option ObjectEntry
object_with id os = option_map object_entry (get_by object_number os id)
