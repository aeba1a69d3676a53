-- From rows of tables to objects and before-images by their keys.
use Rattle.esc_store.proofs.Common.{cases_Bool, inl, inr, ◌≡◌, ℕ, Bool, cond, List, [], ◌∷◌, ◌++◌}
use Rattle.esc_store.proofs.Common.{Option, None, Some, refl, sym, ap, subst, ◌∙◌, ◌==◌, ◌&&◌, bytes_eq}
use Rattle.esc_store.proofs.Common.{find, option_map, IsSome, IfSome, lookup, option_and_then}
use Rattle.esc_store.proofs.Common.{option_or, same_key}
use Rattle.esc_store.proofs.Common.{kind_rank, KeyName, key_eq, ObjectValue, record_of}
use Rattle.sqlite.proofs.StateLemmas.{at_each}
use Rattle.std.proofs.lemmas.List.Folds.{find-append}
pub use Rattle.esc_store.proofs.Registries.{record_here}
use Rattle.esc_store.proofs.Registries.{same_tests, AreAlone, one_object}

-- ---- one row more

-- a test for a row's key is one for the key that is made of it
pub tests_alike : (k q : KeyName) (kind : ℕ) (text : List ℕ) → kind ≡ kind_rank k.kind
    → text ≡ k.text → key_eq k q ≡ ((kind == kind_rank q.kind) && bytes_eq text q.text)
tests_alike k q kind text kinds texts = same_tests k q ∙ rw (kinds, texts) refl

or_none : {X : Type 0} (o : Option X) → option_or o None ≡ o
or_none None = refl
or_none (Some x) = refl

module _ {R B X Y : Type 0} (test : KeyName → R → Bool) (bytes : R → B) (read : X → Y) (held : B → Y) where
  -- of each key what stands there reads as what its row holds
  abbrev pub AreOf : List R → List (KeyName × X) → Type 0
  AreOf rows es = (q : KeyName)
      → option_map read (lookup (key_eq q) es) ≡ option_map held (option_map bytes (find (test q) rows))

  none_held : (o : Option R) → option_map held (option_map bytes o) ≡ None → o ≡ None
  none_held None e = refl
  none_held (Some r) e = absurd cc

  pub one_more : (rows : List R) (es more : List (KeyName × X)) (r : R) (k : KeyName) (x : X)
      → AreOf rows es → lookup (key_eq k) es ≡ None
      → ((q : KeyName) → lookup (key_eq q) more ≡ cond (key_eq k q) (Some x) (lookup (key_eq q) es))
      → ((q : KeyName) → key_eq k q ≡ test q r) → read x ≡ held (bytes r) → AreOf (rows ++ (r ∷ [])) more
  one_more rows es more r k x all new added tests is q =
      rw (added q, find-append (test q) rows (r ∷ []), ← tests q) (elim (cases_Bool (key_eq k q)) [
        | inl same ↦
            let there : lookup (key_eq q) es ≡ None =
            subst (λ (y : KeyName). lookup (key_eq y) es ≡ None) (same_key k q same) new in
            let none : find (test q) rows ≡ None =
            none_held (find (test q) rows) (sym (all q) ∙ ap (option_map read) there) in
            rw (same, none) (ap Some is)
        | inr other ↦ rw (other, or_none (find (test q) rows)) (all q)
      ])

-- ---- objects

-- what is mapped to nothing is nothing
pub none_there : {X Y : Type 0} (f : X → Y) (o : Option X) → None ≡ option_map f o → IsSome o → ⊥
none_there f None e some = let never : ⊥ = cc in never
none_there f (Some x) e some = let never : ⊥ = cc in never

-- records of the same bytes are of the same object
pub same_records : AreAlone → (a b : Option ObjectValue) → option_map record_of a ≡ option_map
    (λ bytes. Some bytes) (option_and_then record_of b) → IfSome b (λ o. IsSome (record_of o)) → a ≡ b
same_records alone None None e has = refl
same_records alone None (Some y) e has = absurd (none_there (λ bytes. Some bytes) (record_of y) e has)
same_records alone (Some x) None e has = absurd cc
same_records alone (Some x) (Some y) e has = by_record (record_of y) refl e where
  by_record : (o : Option (List ℕ))
      → record_of y ≡ o → Some (record_of x) ≡ option_map (λ bytes. Some bytes) o → Some x ≡ Some y
  by_record None is e = absurd cc
  by_record (Some bytes) is e = one_object alone x bytes (Some y) (cc) (sym is)

-- ---- before-images

-- before-images of the same bytes are of the same object
pub same_images : AreAlone → (a b : Option (Option ObjectValue)) → option_map (option_map record_of) a
    ≡ option_map (option_map (λ bytes. Some bytes)) (option_map (λ o. option_and_then record_of o) b)
    → ((o : ObjectValue) → b ≡ Some (Some o) → IsSome (record_of o)) → a ≡ b
same_images alone None None e has = refl
same_images alone None (Some y) e has = absurd cc
same_images alone (Some x) None e has = absurd cc
same_images alone (Some x) (Some y) e has =
    ap Some (same_records alone x y (cc) (at_each y _ (λ o is. has o (ap Some is))))
