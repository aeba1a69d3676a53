-- Objects, as selections from lists of rows with their keys.
use Rattle.std.specs.Prelude.{ℕ, List, [], ◌++◌, ◌∷◌, map, filter, Bool, not, Option, None}
use Rattle.std.specs.Prelude.{option_map, count_by}
use Rattle.std.specs.List.{list_any, last_or, fold}
use Rattle.std.specs.FinMap.Entries.{put}
use Rattle.esc_tables.specs.KeyName.{KeyName, key_cmp, key_eq}
use Rattle.esc_tables.specs.ObjectValue.{RowValue, ObjectValue}

-- the values of the pairs with this key
abbrev pub at_key : {X : Type 0} → KeyName → List (KeyName × X) → List X
at_key k pairs = map (λ p. p.1) (filter (λ p. key_eq k p.0) pairs)

-- whether some pair has a key
abbrev pub has_pair : {X : Type 0} → List (KeyName × X) → KeyName → Bool
has_pair pairs k = list_any (λ p. key_eq k p.0) pairs

abbrev pub with_children : List RowValue → RowValue → ObjectValue
with_children children parent = record { parent = parent; children = children }

-- the object of a key, if a parent row has it: the last such row with all child rows of the key
abbrev pub object_of : List (KeyName × RowValue) → List (KeyName × RowValue) → KeyName
    → Option ObjectValue
object_of parents children k = option_map (with_children (at_key k children))
    (last_or None (at_key k parents))

-- the number of orphans: child rows without a parent row
abbrev pub orphans_of : List (KeyName × RowValue) → List (KeyName × RowValue) → ℕ
orphans_of parents children = count_by (λ c. not (has_pair parents c.0)) children

-- each key of these pairs once, in the order of keys, with its last value
abbrev pub last_by_key : {X : Type 0} → List (KeyName × X) → List (KeyName × X)
last_by_key pairs = fold (λ entries p. put key_cmp p.0 p.1 entries) [] pairs

-- each key of a parent row, in order, with its object
unfoldable pub objects_of : List (KeyName × RowValue) → List (KeyName × RowValue)
    → List (KeyName × ObjectValue)
objects_of parents children = map (λ e. (e.0, with_children (at_key e.0 children) e.1))
    (last_by_key parents)

-- an object that is a parent row without child rows, with its key
abbrev pub alone : KeyName × RowValue → KeyName × ObjectValue
alone p = (p.0, with_children [] p.1)

-- an object with one more child row
abbrev pub with_child : RowValue → ObjectValue → ObjectValue
with_child row object = record object { children = object.children ++ (row ∷ []) }
