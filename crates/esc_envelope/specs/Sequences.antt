-- One step after another, for as long as each has a value.
use Rattle.std.specs.Prelude.{Option, Some, None}

infixl 10 ◌>>=◌
abbrev pub ◌>>=◌ : {A B : Type 0} → Option A → (A → Option B) → Option B
None >>= f = None
(Some x) >>= f = f x
