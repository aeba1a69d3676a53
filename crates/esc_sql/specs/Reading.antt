-- Rows of a result, and the values that are read from them.
use Rattle.std.specs.Prelude.{List, [], ◌∷◌}
use Rattle.sqlite_value.specs.Order.{Row}

-- each value is read from the row with its index, and no row is left out
abbrev pub AreRead : {V : Type 0} → (Row → V → Type 0) → List Row → List V → Type 0
AreRead IsRead [] [] = Unit {0}
AreRead IsRead [] (v ∷ vs) = ⊥
AreRead IsRead (row ∷ rows) [] = ⊥
AreRead IsRead (row ∷ rows) (v ∷ vs) = IsRead row v × AreRead IsRead rows vs
