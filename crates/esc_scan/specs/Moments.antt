-- What is told of the moment's row.
use Rattle.std.specs.Prelude.{ℤ}
use Rattle.esc_sql.specs.Rows.{MomentRow}
use Rattle.esc_scan.specs.declared.moment.StoredMoment.{StoredMoment}

abbrev pub moment_read : StoredMoment → ℤ
moment_read it = it.watermark

abbrev pub watermark_of_moment : MomentRow → ℤ
watermark_of_moment m = m.watermark
