-- What is told of a row with a body: the body, or its size.
use Rattle.std.specs.Prelude.{ℕ, List, length}
use Rattle.esc_sql.specs.Rows.{HeldRow, ParkedRow}
use Rattle.esc_scan.specs.declared.held.HeldBody.{HeldBody}
use Rattle.esc_scan.specs.declared.parked.ParkedSize.{ParkedSize}

abbrev pub body_read : HeldBody → ℕ × List ℕ
body_read it = (it.row, it.body.items)

abbrev pub body_of_row : HeldRow → ℕ × List ℕ
body_of_row h = (h.row, h.body)

abbrev pub held_bytes : HeldBody → List ℕ
held_bytes it = it.body.items

abbrev pub parked_size : ParkedSize → List ℕ × ℕ
parked_size it = (it.digest.items, it.size)

abbrev pub size_of_parked : ParkedRow → List ℕ × ℕ
size_of_parked p = (p.digest, length p.body)
