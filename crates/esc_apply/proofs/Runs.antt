-- What changes of a registry come to, one after another.
use Rattle.std.proofs.Common.{◌≡◌, ℕ, Bool, true, false, cond, eqb, List, [], ◌∷◌, ◌++◌, length}
use Rattle.std.proofs.Common.{Some, None, is_some, refl, sym, ap, subst, ◌∙◌}
use Rattle.std.specs.List.{IsDistinct, AllByRecursion}
use Rattle.std.specs.Map.{lookup, keys_of}
use Rattle.std.specs.Option.{unwrap_or}
use Rattle.std.proofs.lemmas.Bool.{eqb-true}
use Rattle.esc_tables.specs.KeyName.{KeyName, key_eq}
use Rattle.esc_tables.specs.DepositValue.{DepositValue}
use Rattle.esc_apply.specs.Tables.{mentions, says, mention_count}
use Rattle.esc_apply.specs.Registry.{State, nothing, taken, stepped, restored, IsEntriesOf}
use Rattle.esc_apply.specs.declared.registry.Keys.{Keys}
use Rattle.esc_apply.specs.declared.registry.Keys.TheVariants.{Vacant, Unknown}
use Rattle.esc_apply.specs.Changes.{Change, changed_by, AreNew, AreFirst, CanBePut, written_by}
use Rattle.esc_apply.specs.ChangeLaws.{Noted, changed_by-append, content-written_by, content-changed_by}
use Rattle.esc_apply.specs.ChangeLaws.{undo-changed_by, undo-changed_by_other, undo-written_by}
use Rattle.esc_apply.specs.ChangeLaws.{new_first, new_then, Returns}

-- ---- changes that can be made
fresh_all : (s : State) (j : ℕ) (ks : List KeyName)
    → s.undo j ≡ nothing → AllByRecursion (λ k. s.undo j k ≡ None) ks
fresh_all s j [] none = tt
fresh_all s j (k ∷ ks) none = ((λ i. none i k), fresh_all s j ks none)

-- what can be put is new
pub put_new : (targets : Keys) (s : State) (j : ℕ) (es : List Change) → CanBePut targets s j es → AreNew s j es
put_new Vacant s j es are = are.new
put_new Unknown s j es are = are

-- of a registry without objects
pub first_all : (s : State) (j : ℕ) (es : List Change)
    → ((q : KeyName) → s.content q ≡ None) → AreNew s j es → AreFirst s j es
first_all s j es none new = record { new = new; free = all (keys_of es) }
  where
    all : (ks : List KeyName) → AllByRecursion (λ k. s.content k ≡ None) ks
    all [] = tt
    all (k ∷ ks) = (none k, all ks)

-- ---- the changes that a deposit says
pub record AreChangesOf (d : DepositValue) (es : List Change) : Type 0 where
  pub once : IsDistinct key_eq (keys_of es)
  pub each : (q : KeyName) → lookup (key_eq q) es ≡ cond (mentions q d) (Some (says q d)) None
  pub count : length es ≡ mention_count d

-- all changes of a deposit are new where no before-image is kept
pub new_all : (s : State) (j : ℕ) (d : DepositValue) (es : List Change)
    → AreChangesOf d es → s.undo j ≡ nothing → AreNew s j es
new_all s j d es are none = record { once = are.once; fresh = fresh_all s j (keys_of es) none }

-- all of them are the step
pub changed_by-all : (s : State) (j : ℕ) (d : DepositValue) (es : List Change)
    → AreChangesOf d es → s.undo j ≡ nothing → changed_by s j es ≡ stepped s j d
changed_by-all s j d es are none = λ i. record { content = λ q. content q i; undo = λ k q. undo k q i }
  where
    content : (q : KeyName) → (changed_by s j es).content q ≡ cond (mentions q d) (says q d) (s.content q)
    content q = content-changed_by s j es are.once q
        ∙ ap (λ (o : Noted). unwrap_or o (s.content q)) (are.each q) ∙ by_mention (mentions q d)
      where
        by_mention : (b : Bool) → unwrap_or (cond {A = Noted} b (Some (says q d)) None) (s.content q)
            ≡ cond b (says q d) (s.content q)
        by_mention true = refl
        by_mention false = refl

    here : (q : KeyName) → (changed_by s j es).undo j q ≡ cond (mentions q d) (Some (s.content q)) None
    here q = undo-changed_by s j es are.once q ∙ ap (λ (o : Noted). cond {A = Noted} (is_some o)
        (Some (s.content q)) (s.undo j q)) (are.each q) ∙ by_mention (mentions q d)
      where
        by_mention : (b : Bool) → cond {A = Noted} (is_some (cond {A = Noted} b (Some (says q d)) None))
            (Some (s.content q)) (s.undo j q) ≡ cond {A = Noted} b (Some (s.content q)) None
        by_mention true = refl
        by_mention false = λ i. none i q

    undo : (k : ℕ) (q : KeyName) → (changed_by s j es).undo k q
        ≡ cond (eqb j k) (cond (mentions q d) (Some (s.content q)) None) (s.undo k q)
    undo k q = by_step (eqb j k) refl
      where
        by_step : (b : Bool) → eqb j k ≡ b → (changed_by s j es).undo k q ≡ cond
            {A = Noted} b (cond {A = Noted} (mentions q d) (Some (s.content q)) None) (s.undo k q)
        by_step true e = subst (λ (n : ℕ). (changed_by s j es).undo n q
            ≡ cond {A = Noted} (mentions q d) (Some (s.content q)) None) (eqb-true j k e) (here q)
        by_step false e = undo-changed_by_other s j k es e q

-- the first of them made, and then the others
pub step_made : (Mid Held : State → Type 0) (s : State) (j : ℕ) (d : DepositValue) (es fs : List Change)
    → AreChangesOf d (es ++ fs) → s.undo j ≡ nothing
    → (AreNew s j es → Mid (changed_by s j es))
    → ((t : State) → Mid t → AreNew t j fs → Held (changed_by t j fs)) → Held (stepped s j d)
step_made Mid Held s j d es fs are none put removed =
    let all = new_all s j d (es ++ fs) are none in
    subst Held (sym (changed_by-append s j es fs) ∙ changed_by-all s j d (es ++ fs) are none)
    (removed (changed_by s j es) (put (new_first s j es fs all)) (new_then s j es fs all))

-- ---- the way back
-- all that was noted for a step, written back
written_by-all : (s : State) (j : ℕ) (es : List Change)
    → IsEntriesOf (s.undo j) es → written_by (taken s j) es ≡ restored s j
written_by-all s j es are =
    let content = λ (q : KeyName). content-written_by (taken s j) es are.once q
    ∙ ap (λ (o : Noted). unwrap_or o (s.content q)) (are.each q) in
    let undo = undo-written_by (taken s j) es in
    λ i. record { content = λ q. content q i; undo = undo i }

-- what is restored has the first before-images back
pub returns_first : (Held : State → Type 0) (s : State) (j : ℕ) (es : List Change)
    → IsEntriesOf (s.undo j) es → Held (taken s j) → Returns Held (restored s j) es
returns_first Held s j es are held = record { now = taken s j; held = held; leads = written_by-all s j es are }
