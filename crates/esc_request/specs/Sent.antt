-- What a write that failed leaves.
use Rattle.std.specs.Prelude.{◌≡◌, ℕ, List, ◌++◌, Option}
use Rattle.std.specs.Io.KnownBytes.{Appends}

-- a beginning of the text was written
abbrev pub AppendsBeginning : Option (List ℕ) → Option (List ℕ) → List ℕ → Type 0
AppendsBeginning old new text = (sent : List ℕ) × (unsent : List ℕ) × (text ≡ sent ++ unsent)
    × Appends old new sent
