-- Reading a record from the front of a list of bytes. Each text has to pass a test.
use Rattle.std.specs.Prelude.{ℕ, zero, suc, Bool, nat_lt, if◌then◌else◌, List, [], ◌∷◌, length}
use Rattle.std.specs.Prelude.{take, drop, Option, None, Some}
use Rattle.std.specs.Int.{from_be_bytes, w32}
use Rattle.esc_envelope.specs.Sequences.{◌>>=◌}
use Rattle.esc_tables.specs.ObjectValue.{RowValue, ObjectValue}

-- the first n bytes and the rest, if there are n
abbrev pub cut : ℕ → List ℕ → Option (List ℕ × List ℕ)
cut n bytes = if nat_lt (length bytes) n then None else Some (take n bytes, drop n bytes)

-- the number that bytes begin with, and the rest
abbrev pub number_in_front : List ℕ → Option (ℕ × List ℕ)
number_in_front bytes = do
  p ← cut 4 bytes
  Some (from_be_bytes w32 p.0, p.1)

-- a list of n things that bytes begin with, and the rest
abbrev pub many : {A : Type 0} → (List ℕ → Option (A × List ℕ)) → ℕ → List ℕ
    → Option (List A × List ℕ)
many one zero bytes = Some ([], bytes)
many one (suc n) bytes = do
  x ← one bytes
  xs ← many one n x.1
  Some (x.0 ∷ xs.0, xs.1)

module _ (is_text : List ℕ → Bool) where
  -- the text that bytes begin with, and the rest
  abbrev pub text_in_front : List ℕ → Option (List ℕ × List ℕ)
  text_in_front bytes = do
    n ← number_in_front bytes
    p ← cut n.0 n.1
    text ← if is_text p.0 then Some p.0 else None
    Some (text, p.1)

  -- the cell that bytes begin with, and the rest
  unfoldable pub cell_in_front : List ℕ → Option ((List ℕ × List ℕ) × List ℕ)
  cell_in_front bytes = do
    field ← text_in_front bytes
    value ← text_in_front field.1
    Some ((field.0, value.0), value.1)

  -- the row that bytes begin with, and the rest
  unfoldable pub row_in_front : List ℕ → Option (RowValue × List ℕ)
  row_in_front bytes = do
    table ← text_in_front bytes
    count ← number_in_front table.1
    cells ← many cell_in_front count.0 count.1
    Some (record { table = table.0; cells = cells.0 }, cells.1)

  -- the object of these rows, the parent first
  abbrev pub of_rows : List RowValue → Option ObjectValue
  of_rows [] = None
  of_rows (parent ∷ children) = Some (record { parent = parent; children = children })

  -- the object whose record the bytes are, all of them
  unfoldable pub object_of_record : List ℕ → Option ObjectValue
  object_of_record bytes = do
    count ← number_in_front bytes
    rows ← many row_in_front count.0 count.1
    ends ← cut (length rows.1) []
    of_rows rows.0
