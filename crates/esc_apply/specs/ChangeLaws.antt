-- Laws of changes of a registry, one after another.
use Rattle.std.proofs.Common.{◌≡◌, ℕ, Bool, true, false, cond, ◌&&◌, eqb, List, [], ◌∷◌, ◌++◌}
use Rattle.std.proofs.Common.{Option, Some, None, is_some, refl, sym, ap, subst, ◌∙◌}
use Rattle.std.specs.List.{IsDistinct, AllByRecursion}
use Rattle.std.specs.Map.{lookup, keys_of}
use Rattle.std.specs.Option.{unwrap_or}
use Rattle.std.proofs.lemmas.Bool.{eq-eqb, eqb-true}
use Rattle.std.proofs.lemmas.Map.Keys.{IsDistinct-head, IsDistinct-tail, IsDistinct-cons}
use Rattle.esc_tables.specs.KeyName.{KeyName, key_eq}
use Rattle.esc_tables.specs.KeyLaws.{keys_alike, one_key}
use Rattle.esc_tables.specs.ObjectValue.{ObjectValue}
use Rattle.esc_apply.specs.Registry.{State, ObjectsByKey, with_key, written, changed}
use Rattle.esc_apply.specs.declared.registry.Keys.{Keys}
use Rattle.esc_apply.specs.declared.registry.Keys.TheVariants.{Vacant, Unknown}
use Rattle.esc_apply.specs.Changes.{Change, changed_by, AreNew, AreFirst, CanBePut, written_by}

-- what was noted of a key, if anything
abbrev pub Noted : Type 0
Noted = Option (Option ObjectValue)

pub changed_by-append : (s : State) (j : ℕ) (es fs : List Change)
    → changed_by s j (es ++ fs) ≡ changed_by (changed_by s j es) j fs
changed_by-append s j [] fs = refl
changed_by-append s j (e ∷ es) fs = changed_by-append (changed s j e.0 e.1) j es fs

-- ---- the objects that changes leave

-- a key that differs from each key of a list is not found there
not_among : {X : Type 0} (k : KeyName) (es : List (KeyName × X))
    → AllByRecursion (λ y. key_eq k y ≡ false) (keys_of es) → lookup (key_eq k) es ≡ None
not_among k [] all = refl
not_among k (e ∷ es) all =
    ap (λ t. cond t (Some e.1) (lookup (key_eq k) es)) all.0 ∙ not_among k es all.1

-- nor is the key of a change, where no later change has it
found_once : (e : Change) (es : List Change) (q : KeyName)
    → AllByRecursion (λ y. key_eq e.0 y ≡ false) (keys_of es) → key_eq e.0 q ≡ true
    → lookup (key_eq q) es ≡ None
found_once e es q apart same =
    subst (λ (k : KeyName). lookup (key_eq k) es ≡ None) (one_key e.0 q same)
    (not_among e.0 es apart)

-- a first change, at a key that no later one has
first_change : (e : Change) (es : List Change) (q : KeyName) (w : Option ObjectValue)
    → AllByRecursion (λ y. key_eq e.0 y ≡ false) (keys_of es)
    → unwrap_or (lookup (key_eq q) es) (cond (key_eq e.0 q) e.1 w)
    ≡ unwrap_or (cond (key_eq q e.0) (Some e.1) (lookup (key_eq q) es)) w
first_change e es q w apart =
    by_test (key_eq e.0 q) refl
    ∙ ap (λ t. unwrap_or (cond t (Some e.1) (lookup (key_eq q) es)) w) (keys_alike.symm e.0 q)
  where
    by_test : (t : Bool) → key_eq e.0 q ≡ t → unwrap_or (lookup (key_eq q) es) (cond t e.1 w)
        ≡ unwrap_or (cond t (Some e.1) (lookup (key_eq q) es)) w
    by_test true same = ap (λ (o : Noted). unwrap_or o e.1) (found_once e es q apart same)
    by_test false other = refl

pub content-written_by : (s : State) (es : List Change) → IsDistinct key_eq (keys_of es)
    → (q : KeyName) → (written_by s es).content q ≡ unwrap_or (lookup (key_eq q) es) (s.content q)
content-written_by s [] once q = refl
content-written_by s (e ∷ es) once q =
    content-written_by (written s e.0 e.1) es (IsDistinct-tail key_eq e.0 (keys_of es) once) q
    ∙ first_change e es q (s.content q) (IsDistinct-head key_eq e.0 (keys_of es) once)

-- changes leave the same objects whether or not anything is noted
same_content : (s t : State) (j : ℕ) (es : List Change) → s.content ≡ t.content
    → (changed_by s j es).content ≡ (written_by t es).content
same_content s t j [] same = same
same_content s t j (e ∷ es) same = same_content (changed s j e.0 e.1) (written t e.0 e.1) j es
    (ap (λ (f : ObjectsByKey). with_key f e.0 e.1) same)

pub content-changed_by : (s : State) (j : ℕ) (es : List Change) → IsDistinct key_eq (keys_of es)
    → (q : KeyName)
    → (changed_by s j es).content q ≡ unwrap_or (lookup (key_eq q) es) (s.content q)
content-changed_by s j es once q =
    (λ i. same_content s s j es refl i q) ∙ content-written_by s es once q

-- ---- what changes note

first_note : (s : State) (j : ℕ) (e : Change) (es : List Change) (q : KeyName)
    → AllByRecursion (λ y. key_eq e.0 y ≡ false) (keys_of es)
    → cond {A = Noted} (is_some (lookup (key_eq q) es)) (Some ((changed s j e.0 e.1).content q))
    ((changed s j e.0 e.1).undo j q)
    ≡ cond {A = Noted} (is_some (cond {A = Noted} (key_eq q e.0) (Some e.1) (lookup (key_eq q) es)))
    (Some (s.content q)) (s.undo j q)
first_note s j e es q apart =
    by_test (key_eq e.0 q) refl
    ∙ ap (λ t. cond {A = Noted} (is_some (cond {A = Noted} t (Some e.1) (lookup (key_eq q) es)))
    (Some (s.content q)) (s.undo j q)) (keys_alike.symm e.0 q)
  where
    by_test : (t : Bool) → key_eq e.0 q ≡ t
        → cond {A = Noted} (is_some (lookup (key_eq q) es)) (Some (cond t e.1 (s.content q)))
        (cond {A = Noted} (eqb j j) (cond {A = Noted} t (Some (s.content e.0)) (s.undo j q))
        (s.undo j q))
        ≡ cond {A = Noted} (is_some (cond {A = Noted} t (Some e.1) (lookup (key_eq q) es)))
        (Some (s.content q)) (s.undo j q)
    by_test true same =
        ap (λ (o : Noted). cond {A = Noted} (is_some o) (Some e.1)
        (cond {A = Noted} (eqb j j) (Some (s.content e.0)) (s.undo j q)))
        (found_once e es q apart same)
        ∙ ap (λ b. cond {A = Noted} b (Some (s.content e.0)) (s.undo j q)) (eq-eqb j j refl)
        ∙ ap (λ (k : KeyName). Some (s.content k)) (one_key e.0 q same)
    by_test false other =
        ap (λ b. cond {A = Noted} (is_some (lookup (key_eq q) es)) (Some (s.content q))
        (cond {A = Noted} b (s.undo j q) (s.undo j q))) (eq-eqb j j refl)

pub undo-changed_by : (s : State) (j : ℕ) (es : List Change) → IsDistinct key_eq (keys_of es)
    → (q : KeyName) → (changed_by s j es).undo j q
    ≡ cond (is_some (lookup (key_eq q) es)) (Some (s.content q)) (s.undo j q)
undo-changed_by s j [] once q = refl
undo-changed_by s j (e ∷ es) once q =
    undo-changed_by (changed s j e.0 e.1) j es (IsDistinct-tail key_eq e.0 (keys_of es) once) q
    ∙ first_note s j e es q (IsDistinct-head key_eq e.0 (keys_of es) once)

pub undo-changed_by_other : (s : State) (j i : ℕ) (es : List Change) → eqb j i ≡ false
    → (q : KeyName) → (changed_by s j es).undo i q ≡ s.undo i q
undo-changed_by_other s j i [] differs q = refl
undo-changed_by_other s j i (e ∷ es) differs q =
    undo-changed_by_other (changed s j e.0 e.1) j i es differs q
    ∙ ap (λ b. cond {A = Noted} b (with_key (s.undo j) e.0 (Some (s.content e.0)) q) (s.undo i q))
    differs

-- changes note what was at each of their keys
pub undo-new : (s : State) (j : ℕ) (es : List Change) → IsDistinct key_eq (keys_of es)
    → (i : ℕ) (q : KeyName) → (changed_by s j es).undo i q
    ≡ cond (eqb j i && is_some (lookup (key_eq q) es)) (Some (s.content q)) (s.undo i q)
undo-new s j es once i q = by_step (eqb j i) refl
  where
    by_step : (a : Bool) → eqb j i ≡ a → (changed_by s j es).undo i q
        ≡ cond {A = Noted} (a && is_some (lookup (key_eq q) es)) (Some (s.content q)) (s.undo i q)
    by_step false e = undo-changed_by_other s j i es e q
    by_step true e =
        subst (λ (n : ℕ). (changed_by s j es).undo n q
        ≡ cond {A = Noted} (is_some (lookup (key_eq q) es)) (Some (s.content q)) (s.undo n q))
        (eqb-true j i e) (undo-changed_by s j es once q)

-- ---- changes that can be made

-- what holds of each other key holds of each key of a list without this one
all_others : (P Q : KeyName → Type 0) (k : KeyName)
    → ((y : KeyName) → key_eq k y ≡ false → P y → Q y) → (ks : List KeyName)
    → AllByRecursion (λ y. key_eq k y ≡ false) ks → AllByRecursion P ks → AllByRecursion Q ks
all_others P Q k other [] differ all = tt
all_others P Q k other (y ∷ ks) differ all =
    (other y differ.0 all.0, all_others P Q k other ks differ.1 all.1)

still_fresh : (s : State) (j : ℕ) (e : Change) (y : KeyName) → key_eq e.0 y ≡ false
    → s.undo j y ≡ None → (changed s j e.0 e.1).undo j y ≡ None
still_fresh s j e y differs fresh =
    ap (λ b. cond {A = Noted} b (with_key (s.undo j) e.0 (Some (s.content e.0)) y) (s.undo j y))
    (eq-eqb j j refl)
    ∙ ap (λ b. cond {A = Noted} b (Some (s.content e.0)) (s.undo j y)) differs ∙ fresh

pub new_rest : (s : State) (j : ℕ) (e : Change) (es : List Change) → AreNew s j (e ∷ es)
    → AreNew (changed s j e.0 e.1) j es
new_rest s j e es are = record {
  once = IsDistinct-tail key_eq e.0 (keys_of es) are.once;
  fresh = all_others (λ y. s.undo j y ≡ None) (λ y. (changed s j e.0 e.1).undo j y ≡ None) e.0
      (still_fresh s j e) (keys_of es) (IsDistinct-head key_eq e.0 (keys_of es) are.once)
      are.fresh.1;
}

first_rest : (s : State) (j : ℕ) (e : Change) (es : List Change) → AreFirst s j (e ∷ es)
    → AreFirst (changed s j e.0 e.1) j es
first_rest s j e es are = record {
  new = new_rest s j e es are.new;
  free = all_others (λ y. s.content y ≡ None) (λ y. (changed s j e.0 e.1).content y ≡ None) e.0
      (λ y differs free. ap (λ b. cond b e.1 (s.content y)) differs ∙ free) (keys_of es)
      (IsDistinct-head key_eq e.0 (keys_of es) are.new.once) are.free.1;
}

all_first : (P : KeyName → Type 0) (es fs : List Change)
    → AllByRecursion P (keys_of (es ++ fs)) → AllByRecursion P (keys_of es)
all_first P [] fs all = tt
all_first P (e ∷ es) fs all = (all.0, all_first P es fs all.1)

once_first : (es fs : List Change) → IsDistinct key_eq (keys_of (es ++ fs))
    → IsDistinct key_eq (keys_of es)
unfolding IsDistinct
once_first [] fs once = tt
once_first (e ∷ es) fs once =
    IsDistinct-cons key_eq e.0 (keys_of es)
    (all_first (λ y. key_eq e.0 y ≡ false) es fs
    (IsDistinct-head key_eq e.0 (keys_of (es ++ fs)) once))
    (once_first es fs (IsDistinct-tail key_eq e.0 (keys_of (es ++ fs)) once))

pub new_first : (s : State) (j : ℕ) (es fs : List Change) → AreNew s j (es ++ fs) → AreNew s j es
new_first s j es fs are = record {
  once = once_first es fs are.once;
  fresh = all_first (λ k. s.undo j k ≡ None) es fs are.fresh;
}

pub new_then : (s : State) (j : ℕ) (es fs : List Change) → AreNew s j (es ++ fs)
    → AreNew (changed_by s j es) j fs
new_then s j [] fs are = are
new_then s j (e ∷ es) fs are =
    new_then (changed s j e.0 e.1) j es fs (new_rest s j e (es ++ fs) are)

first_first : (s : State) (j : ℕ) (es fs : List Change) → AreFirst s j (es ++ fs)
    → AreFirst s j es
first_first s j es fs are = record {
  new = new_first s j es fs are.new;
  free = all_first (λ k. s.content k ≡ None) es fs are.free;
}

first_then : (s : State) (j : ℕ) (es fs : List Change) → AreFirst s j (es ++ fs)
    → AreFirst (changed_by s j es) j fs
first_then s j [] fs are = are
first_then s j (e ∷ es) fs are =
    first_then (changed s j e.0 e.1) j es fs (first_rest s j e (es ++ fs) are)

put_first : (targets : Keys) (s : State) (j : ℕ) (es fs : List Change)
    → CanBePut targets s j (es ++ fs) → CanBePut targets s j es
put_first Vacant = first_first
put_first Unknown = new_first

put_then : (targets : Keys) (s : State) (j : ℕ) (es fs : List Change)
    → CanBePut targets s j (es ++ fs) → CanBePut targets (changed_by s j es) j fs
put_then Vacant = first_then
put_then Unknown = new_then

-- ---- a run of changes, or of writes, on a registry of which these states are held

-- some state is held from which the changes that are left can be put, and lead to the end
pub record Fills (Held : State → Type 0) (targets : Keys) (end : State) (j : ℕ)
    (left : List Change) : Type 0 where
  pub now : State
  pub held : Held now
  pub can : CanBePut targets now j left
  pub leads : changed_by now j left ≡ end

-- the first of them made
pub fills_more : (Before After : State → Type 0) (targets : Keys) (end : State) (j : ℕ)
    (es fs left : List Change) → left ≡ es ++ fs → Fills Before targets end j left
    → ((t : State) → Before t → CanBePut targets t j es → After (changed_by t j es))
    → Fills After targets end j fs
fills_more Before After targets end j es fs left is going made =
    let all : Fills Before targets end j (es ++ fs) =
    subst (λ (l : List Change). Fills Before targets end j l) is going in
    record {
      now = changed_by all.now j es;
      held = made all.now all.held (put_first targets all.now j es fs all.can);
      can = put_then targets all.now j es fs all.can;
      leads = sym (changed_by-append all.now j es fs) ∙ all.leads;
    }

-- all of them made
pub fills_last : (Held : State → Type 0) (targets : Keys) (end : State) (j : ℕ)
    (left : List Change) → left ≡ [] → Fills Held targets end j left → Held end
fills_last Held targets end j left is going =
    let last : Fills Held targets end j [] =
    subst (λ (l : List Change). Fills Held targets end j l) is going in
    subst Held last.leads last.held

pub undo-written_by : (s : State) (es : List Change) → (written_by s es).undo ≡ s.undo
undo-written_by s [] = refl
undo-written_by s (e ∷ es) = undo-written_by (written s e.0 e.1) es

-- what was noted of changes first is written after it
pub written_by-noted : (s : State) (j : ℕ) (es : List Change)
    → written_by (record { content = s.content; undo = (changed_by s j es).undo }) es
    ≡ changed_by s j es
written_by-noted s j es =
    let t : State = record { content = s.content; undo = (changed_by s j es).undo } in
    let content = same_content s t j es refl in
    let undo = undo-written_by t es in
    λ i. record { content = sym content i; undo = undo i }

-- some state is held from which the writes that are left lead to the end
pub record Returns (Held : State → Type 0) (end : State) (left : List Change) : Type 0 where
  pub now : State
  pub held : Held now
  pub leads : written_by now left ≡ end

-- all of them made
pub returns_last : (Held : State → Type 0) (end : State) (left : List Change) → left ≡ []
    → Returns Held end left → Held end
returns_last Held end left is going =
    let last : Returns Held end [] = subst (λ (l : List Change). Returns Held end l) is going in
    subst Held last.leads last.held
