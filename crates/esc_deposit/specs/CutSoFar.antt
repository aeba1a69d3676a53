-- What is cut of the objects of a registry, while they come.
use Rattle.std.specs.Prelude.{◌≡◌, ◌⊎◌, ℕ, List, [], ◌∷◌, ◌++◌, map, length, All}
use Rattle.esc_apply.specs.ObjectStreams.{Entry}
use Rattle.esc_apply.specs.Registry.{saturated}
use Rattle.esc_deposit.specs.declared.cut.Size.{Size}
use Rattle.esc_deposit.specs.RegistrySeries.{run_objects}
use Rattle.esc_deposit.specs.Cuts.{run_rows, run_bound, IsRun, AreFull}

-- the objects so far are cut into runs of these lengths and a last run, of this length and size. It
-- has no objects only if there are none
pub record IsCutSoFar (es : List Entry) (lengths : List ℕ) (last : ℕ) (size : Size) : Type 0 where
  pub runs : List (List Entry)
  pub run : List Entry
  pub whole : run_objects (runs ++ run ∷ []) ≡ es
  pub each : map length runs ≡ lengths
  pub long : length run ≡ last
  pub rows : size.rows ≡ saturated (run_rows run)
  pub bytes : size.bytes ≡ saturated (run_bound run)
  pub taken : ((runs ≡ []) × (run ≡ [])) ⊎ All IsRun (runs ++ run ∷ [])
  pub full : AreFull (runs ++ run ∷ [])
