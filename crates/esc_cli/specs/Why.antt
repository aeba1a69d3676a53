-- What is printed of why something was refused.
use Rattle.std.specs.Prelude.{◌≡◌, ℕ, List, [], ◌∷◌, ◌++◌, ◌||◌, ◌==◌, true, nat_lt, not}
use Rattle.std.specs.Prelude.{if◌then◌else◌}
use Rattle.std.specs.List.{list_all}

-- a byte of a line: a space for a control character
abbrev pub shown : ℕ → ℕ
shown byte = if nat_lt byte 32 || (byte == 127) then 32 else byte

-- bytes that are one line: they end with a line end, and have no other
abbrev pub IsLine : List ℕ → Type 0
IsLine line = (text : List ℕ) × (line ≡ text ++ 10 ∷ [])
    × (list_all (λ byte. not (byte == 10)) text ≡ true)
