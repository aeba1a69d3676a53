-- Objects that are given one at a time.
use Rattle.std.specs.Prelude.{◌≡◌, List, [], ◌∷◌, Option, Some, None}
use Rattle.std.specs.List.Sorted.{IsStrictlySortedBy}
use Rattle.std.specs.Map.{keys_of}
use Rattle.esc_tables.specs.KeyName.{KeyName, key_cmp}
use Rattle.esc_tables.specs.ObjectValue.{ObjectValue}

-- a key and its object
abbrev pub Entry : Type 0
Entry = KeyName × ObjectValue

-- the entries are in the order of keys, each key once
abbrev pub InOrder : List Entry → Type 0
InOrder es = IsStrictlySortedBy key_cmp (keys_of es)

-- the first of the entries that were still to come was returned, and the others are still to come;
-- or there was none, and none was returned
abbrev pub GivesFirst : (List Entry → Type 0) → List Entry → Option Entry → Type 0
GivesFirst Lists es (Some e) = (rest : List Entry) × (es ≡ e ∷ rest) × Lists rest
GivesFirst Lists es None = (es ≡ []) × Lists []
