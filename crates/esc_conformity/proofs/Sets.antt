-- Sets of keys, and one key more.
use Rattle.std.proofs.Common.{◌≡◌, Bool, true, false, cond, ◌&&◌, ◌||◌, List, [], ◌∷◌, ◌++◌}
use Rattle.std.proofs.Common.{Some, None, is_some, refl, sym, ap, ◌∙◌}
use Rattle.std.specs.BTreeSet as sorted
use Rattle.std.specs.BTreeSet.{BTreeSet}
use Rattle.std.specs.Map.{lookup}
use Rattle.esc_apply.specs.ObjectStreams.{Entry}
use Rattle.esc_tables.specs.KeyName.{KeyName, key_cmp, key_eq}
use Rattle.esc_tables.specs.KeyLaws.{keys_alike}
use Rattle.esc_check.specs.Gathered.{is_present}

or_turned : (a b : Bool) → cond a true b ≡ (b || a)
or_turned true true = refl
or_turned true false = refl
or_turned false true = refl
or_turned false false = refl

or_none : (b d : Bool) → b ≡ (b || (false && d))
or_none true d = refl
or_none false d = refl

module _ (old : BTreeSet KeyName) (k q : KeyName) where
  -- a key was put into a set, where a test asked for that
  pub put_in : (new : BTreeSet KeyName) (test : Bool) → test ≡ true
      → sorted.contains key_cmp new q ≡ cond (key_eq k q) true (sorted.contains key_cmp old q)
      → sorted.contains key_cmp new q ≡ (sorted.contains key_cmp old q || (test && key_eq q k))
  put_in new test asked is = is ∙ or_turned (key_eq k q) (sorted.contains key_cmp old q)
      ∙ ap (λ b. sorted.contains key_cmp old q || b) (keys_alike.symm k q)
      ∙ ap (λ b. sorted.contains key_cmp old q || (b && key_eq q k)) (sym asked)

  -- none was, where the test didn't
  pub left_as_it_was : (test : Bool) → test ≡ false → sorted.contains key_cmp old q
      ≡ (sorted.contains key_cmp old q || (test && key_eq q k))
  left_as_it_was test not_asked = or_none (sorted.contains key_cmp old q) (key_eq q k)
      ∙ ap (λ b. sorted.contains key_cmp old q || (b && key_eq q k)) (sym not_asked)

-- the key of one object more
pub present_more : (q : KeyName) (es : List Entry) (e : Entry)
    → is_present (es ++ e ∷ []) q ≡ (is_present es q || key_eq q e.0)
present_more q [] e = by (key_eq q e.0)
  where
    by : (b : Bool) → is_some (cond b (Some e.1) None) ≡ b
    by true = refl
    by false = refl
present_more q (x ∷ es) e = by (key_eq q x.0) (present_more q es e)
  where
    by : (b : Bool) → is_present (es ++ e ∷ []) q ≡ (is_present es q || key_eq q e.0)
        → is_some (cond b (Some x.1) (lookup (key_eq q) (es ++ e ∷ [])))
        ≡ (is_some (cond b (Some x.1) (lookup (key_eq q) es)) || key_eq q e.0)
    by true h = refl
    by false h = h

-- what is asked of either of two equal keys
pub asked_of_either : (a b present same : Bool) → (same ≡ true → a ≡ b)
    → ((a && present) || (b && same)) ≡ (a && (present || same))
asked_of_either true true true same is = refl
asked_of_either true true false same is = refl
asked_of_either false false present same is = refl
asked_of_either true false true same is = refl
asked_of_either true false false true is = sym (is refl)
asked_of_either true false false false is = refl
asked_of_either false true present true is = sym (is refl)
asked_of_either false true present false is = refl
