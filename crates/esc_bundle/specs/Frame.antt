-- The sections of a text, or its fault, as a function.
use Rattle.std.specs.Prelude.{ℕ, zero, suc, List, [], ◌∷◌, ◌++◌, length, drop, nat_le, nat_eq}
use Rattle.std.specs.Prelude.{Result, Ok, Err}
use Rattle.std.specs.List.{starts_with}
use Rattle.std.specs.Option.{option_map_or}
use Rattle.esc_bundle.specs.declared.refusal.Refusal.{Refusal}
use Rattle.esc_bundle.specs.declared.refusal.Refusal.TheVariants.{BrokenFrame, OverLimit}
use Rattle.esc_bundle.specs.Bundle.{Named, limit, first_line}
use Rattle.esc_bundle.specs.Tests.{◌>>=◌, check}
use Rattle.esc_bundle.specs.Reading.{next_at}

-- these sections and those that come after them, read in n steps at most: one for each section, and
-- one for the end; over the limit where that isn't enough
unfoldable pub frame_after : ℕ → List Named → List ℕ → Result (List Named) Refusal
frame_after zero before rest = Err OverLimit
frame_after (suc steps) before rest
    = next_at before rest >>= λ next.
    option_map_or (λ found. frame_after steps (before ++ (found.0 ∷ [])) found.1) next (Ok before)

-- the sections of a bundle, or the fault of any other text. 65 steps are enough for
-- 64 sections and the end
unfoldable pub frame : List ℕ → Result (List Named) Refusal
frame body = do
  fits ← check (nat_le (length body) limit) OverLimit
  begins ← check (starts_with nat_eq body first_line) BrokenFrame
  frame_after 65 [] (drop (length first_line) body)
