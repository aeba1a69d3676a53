-- The body of a request.
use Rattle.std.specs.Prelude.{◌≡◌, ℕ, ◌≤◌, ◌<◌, List, length, take}
use Rattle.esc_request.specs.declared.body.Body.{Body}
use Rattle.esc_request.specs.declared.body.Body.TheVariants.{Whole, Cut, NoMemory}

-- the body is the first `size` bytes of the input, or the input is shorter; out of memory is always
-- possible
abbrev pub IsBody : ℕ → List ℕ → Body → Type 0
IsBody size input (Whole body) = (size ≤ length input) × (body.items ≡ take size input)
IsBody size input Cut = length input < size
IsBody size input NoMemory = Unit {0}

-- a body of `size` bytes isn't whole yet
abbrev pub IsShorter : ℕ → List ℕ → Type 0
IsShorter size bytes = length bytes < size
