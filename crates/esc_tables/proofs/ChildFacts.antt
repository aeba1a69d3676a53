-- Parent rows put at their keys, and child rows added to the objects of theirs.
use Rattle.std.proofs.Common.{◌≡◌, ◌∙◌, ◌+◌, Bool, true, false, cond, List, [], ◌∷◌, ◌++◌}
use Rattle.std.proofs.Common.{map, filter, Option, Some, None, refl, sym, ap, inl, inr}
use Rattle.std.specs.Prelude.{option_map, is_some, not, ◌||◌}
use Rattle.std.specs.List.{last_or}
use Rattle.std.specs.BTreeMap.{BTreeMap, get, IsFromIterResult, UpdatesBy, IsOrdered}
use Rattle.std.specs.Map.{update, update_all}
use Rattle.std.specs.FinMap.Entries.{put}
use Rattle.std.proofs.lemmas.Bool.{cases_Bool}
use Rattle.std.proofs.lemmas.List.{map-append, append-nil}
use Rattle.std.proofs.lemmas.List.Elements.{filter-append}
use Rattle.std.proofs.lemmas.List.Sums.{sum_by_push}
use Rattle.esc_tables.specs.KeyName.{KeyName, key_cmp, key_eq}
use Rattle.esc_tables.specs.ObjectValue.{RowValue, ObjectValue}
use Rattle.esc_tables.specs.Objects.{at_key, has_pair, with_children, with_child, alone, object_of}
use Rattle.esc_tables.specs.Objects.{objects_of, orphans_of}
use Rattle.esc_tables.specs.KeyLaws.{keys_alike, one_key}
use Rattle.esc_tables.proofs.ObjectFacts.{found_is, sorted_from, same_objects, last_at, objects_found, objects_sorted}

-- ---- one step of the map

abbrev Added : BTreeMap KeyName ObjectValue
    → BTreeMap KeyName ObjectValue → KeyName → RowValue → KeyName → Type 0
Added old new key row k = get key_cmp new k
    ≡ cond (key_eq k key) (option_map (with_child row) (get key_cmp old k)) (get key_cmp old k)

-- a child row without a parent adds nothing
pub none_added : (m : BTreeMap KeyName ObjectValue) (key : KeyName) (row : RowValue)
    → None ≡ get key_cmp m key → (k : KeyName) → Added m m key row k
none_added m key row none k = elim (cases_Bool (key_eq k key)) [
  | inl same ↦ let gone : get key_cmp m k ≡ None = ap (get key_cmp m) (one_key k key same) ∙ sym none in
      rw (same, gone) refl
  | inr other ↦ rw other refl
]

-- a child row is added to its parent's object
pub child_added : (old new : BTreeMap KeyName ObjectValue) (key : KeyName) (row : RowValue)
    (before after : ObjectValue) → Some before ≡ get key_cmp old key → UpdatesBy key_cmp (key_cmp key)
    old new (Some after) → after ≡ with_child row before → (k : KeyName) → Added old new key row k
child_added old new key row before after found updates pushed k =
    let put : get key_cmp new k ≡ cond (key_eq k key) (Some after) (get key_cmp old k) = updates.0 k
    ∙ ap (λ (b : Bool). cond b (Some after) (get key_cmp old k)) (keys_alike.symm key k) in
    elim (cases_Bool (key_eq k key)) [
      | inl same ↦ let here : get key_cmp old k ≡ Some before =
          ap (get key_cmp old) (one_key k key same) ∙ sym found in rw (put, same, here, pushed) refl
      | inr other ↦ rw (put, other) refl
    ]

-- ---- one more child row

one_there : (b : Bool) (c : KeyName × RowValue) (front : List RowValue)
    → front ++ map (λ p. p.1) (cond b (c ∷ []) []) ≡ cond b (front ++ (c.1 ∷ [])) front
one_there true c front = refl
one_there false c front = append-nil front

at_key_push : (k : KeyName) (cs : List (KeyName × RowValue)) (c : KeyName × RowValue)
    → at_key k (cs ++ (c ∷ [])) ≡ cond (key_eq k c.0) (at_key k cs ++ (c.1 ∷ [])) (at_key k cs)
at_key_push k cs c =
    ap (map (λ (p : KeyName × RowValue). p.1))
    (filter-append (λ (p : KeyName × RowValue). key_eq k p.0) cs (c ∷ []))
    ∙ map-append (λ (p : KeyName × RowValue). p.1)
    (filter (λ p. key_eq k p.0) cs) (cond (key_eq k c.0) (c ∷ []) [])
    ∙ one_there (key_eq k c.0) c (at_key k cs)

made_with : (o : Option RowValue) (rows : List RowValue) (row : RowValue) → option_map (with_child row)
    (option_map (with_children rows) o) ≡ option_map (with_children (rows ++ (row ∷ []))) o
made_with None rows row = refl
made_with (Some r) rows row = refl

-- what a map has for each key, after a child row was added
pub object_more : (parents cs : List (KeyName × RowValue)) (c : KeyName × RowValue)
    (old new : BTreeMap KeyName ObjectValue) (k : KeyName) → get key_cmp old k ≡ object_of parents cs k
    → Added old new c.0 c.1 k → get key_cmp new k ≡ object_of parents (cs ++ (c ∷ [])) k
object_more parents cs c old new k before added =
    let last = last_or None (at_key k parents) in
    let now : object_of parents (cs ++ (c ∷ [])) k ≡ option_map
    (with_children (cond (key_eq k c.0) (at_key k cs ++ (c.1 ∷ [])) (at_key k cs))) last =
    ap (λ (rows : List RowValue). option_map (with_children rows) last) (at_key_push k cs c) in
    elim (cases_Bool (key_eq k c.0)) [
      | inl same ↦ rw same at added ∙ ap (option_map (with_child c.1)) before
          ∙ made_with last (at_key k cs) c.1 ∙ sym (rw same at now)
      | inr other ↦ rw other at added ∙ before ∙ sym (rw other at now)
    ]

-- ---- orphans

last_is_some : {X : Type 0} (k : KeyName) (ps : List (KeyName × X)) (o : Option X)
    → is_some (last_or o (at_key k ps)) ≡ (is_some o || has_pair ps k)
last_is_some k [] None = refl
last_is_some k [] (Some x) = refl
last_is_some k (p ∷ ps) None = elim (cases_Bool (key_eq k p.0))
    [ inl e ↦ rw e (last_is_some k ps (Some p.1)) | inr e ↦ rw e (last_is_some k ps None) ]
last_is_some k (p ∷ ps) (Some x) = elim (cases_Bool (key_eq k p.0))
    [ inl e ↦ rw e (last_is_some k ps (Some p.1)) | inr e ↦ rw e (last_is_some k ps (Some x)) ]

mapped_is_some : {A B : Type 0} (f : A → B) (o : Option A) → is_some (option_map f o) ≡ is_some o
mapped_is_some f None = refl
mapped_is_some f (Some x) = refl

-- a key has an object exactly if a parent row has it
pub object_is_some : (parents cs : List (KeyName × RowValue)) (k : KeyName)
    → is_some (object_of parents cs k) ≡ has_pair parents k
object_is_some parents cs k = mapped_is_some (with_children (at_key k cs))
    (last_or None (at_key k parents)) ∙ last_is_some k parents None

-- one more child row, which is an orphan or not
pub orphans_more : (parents cs : List (KeyName × RowValue)) (c : KeyName × RowValue) → orphans_of
    parents (cs ++ (c ∷ [])) ≡ orphans_of parents cs + cond (not (has_pair parents c.0)) 1 0
orphans_more parents cs c = sum_by_push (λ (d : KeyName × RowValue). cond (not (has_pair parents d.0)) 1 0) cs c

-- ---- from the entries to what each key has, and back

last_mapped : {A B : Type 0} (f : A → B) (xs : List A) (o : Option A)
    → last_or (option_map f o) (map f xs) ≡ option_map f (last_or o xs)
last_mapped f [] o = refl
last_mapped f (x ∷ xs) o = last_mapped f xs (Some x)

at_key_alone : (k : KeyName) (ps : List (KeyName × RowValue))
    → at_key k (map alone ps) ≡ map (with_children []) (at_key k ps)
at_key_alone k [] = refl
at_key_alone k (p ∷ ps) = elim (cases_Bool (key_eq k p.0)) [
  | inl e ↦ rw e (ap (λ (os : List ObjectValue). with_children [] p.1 ∷ os) (at_key_alone k ps))
  | inr e ↦ rw e (at_key_alone k ps)
]

-- pairs inserted one after another: of a key the last value is found
updated : {X : Type 0} (k : KeyName) (ps : List (KeyName × X)) (f : KeyName → Option X)
    → update_all key_eq f ps k ≡ last_or (f k) (at_key k ps)
updated k [] f = refl
updated {X = X} k (p ∷ ps) f =
    updated k ps (update key_eq f p.0 (Some p.1)) ∙ ap (λ (b : Bool). last_or (cond b (Some p.1) (f k))
    (at_key k ps)) (keys_alike.symm p.0 k) ∙ sym (last_at k p ps (f k))

-- parent rows alone, before any child row
pub parents_found : (parents : List (KeyName × RowValue)) (m : BTreeMap KeyName ObjectValue)
    → IsFromIterResult key_cmp (map alone parents) m
    → (k : KeyName) → get key_cmp m k ≡ object_of parents [] k
parents_found parents m made k = made.0 k ∙ updated k (map alone parents) (λ _. None) ∙ ap
    (last_or None) (at_key_alone k parents) ∙ last_mapped (with_children []) (at_key k parents) None

-- a map that has for each key its object has these entries
pub entries_are : (parents children : List (KeyName × RowValue)) (m : BTreeMap KeyName ObjectValue)
    → IsOrdered key_cmp m → ((k : KeyName) → get key_cmp m k ≡ object_of parents children k)
    → m.entries ≡ objects_of parents children
entries_are parents children m ordered has =
    same_objects m.entries (objects_of parents children) (sorted_from m.entries ordered) (objects_sorted
    parents children) (λ k. found_is k m.entries ∙ has k ∙ sym (objects_found parents children k))
