-- What is told of an object by its kind alone.
use Rattle.std.specs.Prelude.{ℕ}
use Rattle.esc_sql.specs.Rows.{ObjectRow}
use Rattle.esc_scan.specs.declared.object.ObjectKind.{ObjectKind}

abbrev pub kind_read : ObjectKind → ℕ
kind_read it = it.kind

abbrev pub kind_of_object : ObjectRow → ℕ
kind_of_object o = o.kind
