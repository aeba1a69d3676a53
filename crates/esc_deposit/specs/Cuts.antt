-- Where the objects of a registry are cut into runs, each of which is one bundle (this project's
-- profile).
use Rattle.std.specs.Prelude.{◌≡◌, ◌⊎◌, ℕ, ◌+◌, ◌<◌, ◌≤◌, ◌==◌, List, [], ◌∷◌, ◌++◌, map, length}
use Rattle.std.specs.Prelude.{take, All, sum_by, count_by}
use Rattle.esc_tables.specs.ObjectValue.{ObjectValue, RowValue}
use Rattle.esc_tables.specs.declared.survey.TheConstants.{MOST_ROWS}
use Rattle.esc_apply.specs.ObjectStreams.{Entry}
use Rattle.esc_deposit.specs.declared.cut.TheConstants.{MOST_ROW_BYTES}
use Rattle.esc_deposit.specs.RegistrySeries.{run_objects}

-- the most bytes of a text in a line: in quotes, with each quote in it twice, and a comma or LF
abbrev pub text_bound : List ℕ → ℕ
text_bound text = length text + count_by (λ b. b == 34) text + 3

-- the most bytes of a row's line
abbrev pub row_bound : RowValue → ℕ
row_bound row = sum_by (λ (c : List ℕ × List ℕ). text_bound c.1) row.cells

-- how many rows an object has: its parent row and its child rows
abbrev pub object_row_count : ObjectValue → ℕ
object_row_count o = 1 + length o.children

-- the most bytes of their lines
abbrev pub object_bound : ObjectValue → ℕ
object_bound o = row_bound o.parent + sum_by row_bound o.children

-- how many rows objects have
abbrev pub run_rows : List Entry → ℕ
run_rows run = sum_by (λ (e : Entry). object_row_count e.1) run

-- the most bytes of their lines
abbrev pub run_bound : List Entry → ℕ
run_bound run = sum_by (λ (e : Entry). object_bound e.1) run

-- one bundle takes these objects
pub record FitsBundle (run : List Entry) : Type 0 where
  pub rows : run_rows run ≤ MOST_ROWS
  pub bytes : run_bound run ≤ MOST_ROW_BYTES

-- there are objects in the run, and one bundle takes them, or there is but one
pub record IsRun (run : List Entry) : Type 0 where
  pub some : 0 < length run
  pub fits : FitsBundle run ⊎ (length run ≡ 1)

-- no run could have the first object of the next one, too
abbrev pub AreFull : List (List Entry) → Type 0
AreFull [] = Unit {0}
AreFull (run ∷ []) = Unit {0}
AreFull (run ∷ next ∷ runs) = (FitsBundle (run ++ take 1 next) → ⊥) × AreFull (next ∷ runs)

-- the objects are cut into runs of these lengths, each as long as it may be. Of no objects there is
-- one run
pub record AreCutInto (es : List Entry) (lengths : List ℕ) : Type 0 where
  pub runs : List (List Entry)
  pub whole : run_objects runs ≡ es
  pub each : map length runs ≡ lengths
  pub some : 0 < length runs
  pub taken : (runs ≡ [] ∷ []) ⊎ All IsRun runs
  pub full : AreFull runs
