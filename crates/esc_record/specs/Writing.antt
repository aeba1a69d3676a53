-- What the functions that write a record do.
use Rattle.std.specs.Prelude.{◌≡◌, ℕ, Bool, true, List, ◌++◌, Result, IfOk}
use Rattle.esc_bundle.specs.declared.fault.NoMemory.{NoMemory}

-- the call returns whether the thing fits, and if it does, its bytes were put after the others
abbrev pub Pushes : Bool → List ℕ → List ℕ → List ℕ → Result Bool NoMemory → Type 0
Pushes fits bytes old new result
    = IfOk result (λ answer. (answer ≡ fits) × (answer ≡ true → new ≡ old ++ bytes))
