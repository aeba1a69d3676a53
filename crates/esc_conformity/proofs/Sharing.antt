-- Objects that share a ROID are found among those whose marks came twice.
use Rattle.std.proofs.Common.{◌≡◌, ℕ, suc, ◌+◌, ◌≤◌, Bool, true, false, cond, List, [], ◌∷◌, ◌++◌, map, filter}
use Rattle.std.proofs.Common.{length, Option, Some, None, refl, sym, ap, subst, ◌∙◌, arith, true≢false}
use Rattle.std.proofs.lemmas.Bool.Decides.{nat_tests}
use Rattle.std.specs.Prelude.{nat_lt, option_map}
use Rattle.std.specs.List.{flat_map}
use Rattle.std.specs.Option.{option_map_or, option_to_list}
use Rattle.std.specs.Ordering.{nat_cmp, eq_by_cmp}
use Rattle.std.specs.Cmp.{nat_cmp_total}
use Rattle.std.specs.BTreeSet as sorted
use Rattle.std.specs.BTreeSet.{BTreeSet}
use Rattle.std.proofs.lemmas.Cmp.{eq_by_cmp_equiv}
use Rattle.std.proofs.lemmas.List.Sums.{length-filter}
use Rattle.esc_apply.specs.ObjectStreams.{Entry}
use Rattle.esc_tables.specs.KeyName.{KeyName, key_cmp, key_eq}
use Rattle.esc_tables.specs.KeyLaws.{one_key, keys_alike}
use Rattle.esc_conformity.specs.declared.roid.Holder.{Holder}
use Rattle.esc_conformity.specs.declared.rule.Rule.TheVariants.{Roids}
use Rattle.esc_conformity.specs.Examined.{holder_of, is_suspect, suspects_of, is_held_twice, sharing_keys}
use Rattle.esc_conformity.specs.Flaws.{roid_of, has_roid, is_shared, flaw_of, flaws}
use Rattle.esc_conformity.specs.Marks.{mark_of, marks_of}
use Rattle.esc_conformity.specs.Repeats.{occurrences}

-- the objects that have a ROID, all of them
abbrev holders_of : List Entry → List Holder
holders_of es = flat_map holder_of es

-- how many of some have this one
abbrev held : KeyName → List Holder → ℕ
held r hs = length (filter (key_eq r) (map (λ (h : Holder). h.roid) hs))

-- how many of these marks are its mark
abbrev alike : KeyName → List ℕ → ℕ
alike r ms = length (filter (eq_by_cmp nat_cmp (mark_of r)) ms)

held_is : (r : KeyName) (hs : List Holder)
    → occurrences key_cmp r (map (λ (h : Holder). h.roid) hs) ≡ held r hs
held_is r hs = sym (length-filter (key_eq r) (map (λ (h : Holder). h.roid) hs))

alike_is : (r : KeyName) (ms : List ℕ) → occurrences nat_cmp (mark_of r) ms ≡ alike r ms
alike_is r ms = sym (length-filter (eq_by_cmp nat_cmp (mark_of r)) ms)

-- ---- by its holders a ROID is shared just where it is by the objects

held_by_objects : (r : KeyName) (es : List Entry) → held r (holders_of es) ≡ length (filter (has_roid r) es)
held_by_objects r [] = refl
held_by_objects r (e ∷ es) = by (roid_of e) (held_by_objects r es)
  where
    by : (o : Option KeyName) → held r (holders_of es) ≡ length (filter (has_roid r) es)
        → held r (option_to_list (option_map (λ q. record { roid = q; key = e.0 }) o) ++ holders_of es)
        ≡ length (cond (option_map_or (λ q. key_eq q r) o false)
        (e ∷ filter (has_roid r) es) (filter (has_roid r) es))
    by None h = h
    by (Some q) h =
        ap (λ b. length (cond b (q ∷ filter (key_eq r) (map (λ (h : Holder). h.roid) (holders_of es)))
        (filter (key_eq r) (map (λ (h : Holder). h.roid) (holders_of es))))) (keys_alike.symm r q)
        ∙ count (key_eq q r) h
      where
        count : (b : Bool) → held r (holders_of es) ≡ length (filter (has_roid r) es)
            → length (cond b (q ∷ filter (key_eq r) (map (λ (h : Holder). h.roid) (holders_of es)))
            (filter (key_eq r) (map (λ (h : Holder). h.roid) (holders_of es))))
            ≡ length (cond b (e ∷ filter (has_roid r) es) (filter (has_roid r) es))
        count true h = ap suc h
        count false h = h

shared_is : (es : List Entry) (r : KeyName) → is_held_twice (holders_of es) r ≡ is_shared es r
shared_is es r = ap (nat_lt 1) (held_is r (holders_of es) ∙ held_by_objects r es)

-- ---- a ROID comes at most as often as its mark

same_mark : (r q : KeyName) → key_eq r q ≡ true → eq_by_cmp nat_cmp (mark_of r) (mark_of q) ≡ true
same_mark r q same = subst (λ (k : KeyName). eq_by_cmp nat_cmp (mark_of r) (mark_of k) ≡ true)
    (one_key r q same) ((eq_by_cmp_equiv nat_cmp_total).refl (mark_of r))

no_more_than_marks : (r : KeyName) (es : List Entry) → held r (holders_of es) ≤ alike r (marks_of es)
no_more_than_marks r [] = omega arith
no_more_than_marks r (e ∷ es) = by (roid_of e) (no_more_than_marks r es)
  where
    by : (o : Option KeyName) → held r (holders_of es) ≤ alike r (marks_of es)
        → held r (option_to_list (option_map (λ q. record { roid = q; key = e.0 }) o) ++ holders_of es)
        ≤ alike r (option_to_list (option_map mark_of o) ++ marks_of es)
    by None h = h
    by (Some q) h = count (key_eq r q) refl (eq_by_cmp nat_cmp (mark_of r) (mark_of q)) refl
      where
        count : (b : Bool) → key_eq r q ≡ b → (d : Bool) → eq_by_cmp nat_cmp (mark_of r) (mark_of q) ≡ d
            → length (cond b (q ∷ filter (key_eq r) (map (λ (h : Holder). h.roid) (holders_of es)))
            (filter (key_eq r) (map (λ (h : Holder). h.roid) (holders_of es))))
            ≤ length (cond d (mark_of q ∷ filter (eq_by_cmp nat_cmp (mark_of r)) (marks_of es))
            (filter (eq_by_cmp nat_cmp (mark_of r)) (marks_of es)))
        count true same true both = omega (arith, h)
        count true same false apart = absurd (true≢false (sym (same_mark r q same) ∙ apart))
        count false differs true alike = omega (arith, h)
        count false differs false apart = h

module _ (marks : BTreeSet ℕ) (es : List Entry)
    (known : (m : ℕ) → sorted.contains nat_cmp marks m ≡ nat_lt 1 (occurrences nat_cmp m (marks_of es))) where
  -- a ROID that several have is suspect
  suspect_if_shared : (h : Holder) → is_suspect marks h ≡ false
      → is_held_twice (holders_of es) h.roid ≡ false
  suspect_if_shared h unmarked =
      let once : nat_lt 1 (alike h.roid (marks_of es)) ≡ false =
      ap (nat_lt 1) (sym (alike_is h.roid (marks_of es))) ∙ sym (known (mark_of h.roid)) ∙ unmarked in
      let few = no_more_than_marks h.roid es in
      ap (nat_lt 1) (held_is h.roid (holders_of es)) ∙ few_enough _ _ few once
    where
      few_enough : (n m : ℕ) → n ≤ m → nat_lt 1 m ≡ false → nat_lt 1 n ≡ false
      few_enough n m le once = grind (arith, nat_tests)

  -- ---- a suspect ROID is had by as many suspects as objects

  held_by_suspects : (r : KeyName) → sorted.contains nat_cmp marks (mark_of r) ≡ true
      → (hs : List Holder) → held r (filter (is_suspect marks) hs) ≡ held r hs
  held_by_suspects r suspect [] = refl
  held_by_suspects r suspect (h ∷ hs) = by (is_suspect marks h) refl (held_by_suspects r suspect hs)
    where
      by : (b : Bool) → is_suspect marks h ≡ b → held r (filter (is_suspect marks) hs) ≡ held r hs
          → held r (cond b (h ∷ filter (is_suspect marks) hs) (filter (is_suspect marks) hs))
          ≡ held r (h ∷ hs)
      by true is had = count (key_eq r h.roid)
        where
          count : (b : Bool)
              → length (cond b (h.roid ∷ filter (key_eq r)
              (map (λ (g : Holder). g.roid) (filter (is_suspect marks) hs)))
              (filter (key_eq r) (map (λ (g : Holder). g.roid) (filter (is_suspect marks) hs))))
              ≡ length (cond b (h.roid ∷ filter (key_eq r) (map (λ (g : Holder). g.roid) hs))
              (filter (key_eq r) (map (λ (g : Holder). g.roid) hs)))
          count true = ap suc had
          count false = had
      by false isnt had = had ∙ count (key_eq r h.roid) refl
        where
          count : (b : Bool) → key_eq r h.roid ≡ b → held r hs
              ≡ length (cond b (h.roid ∷ filter (key_eq r) (map (λ (g : Holder). g.roid) hs))
              (filter (key_eq r) (map (λ (g : Holder). g.roid) hs)))
          count true same = absurd (true≢false (sym suspect
              ∙ ap (λ (k : KeyName). sorted.contains nat_cmp marks (mark_of k)) (one_key r h.roid same) ∙ isnt))
          count false differs = refl

  -- whether it is shared is told by the suspects alone
  told_by_suspects : (h : Holder) → is_suspect marks h ≡ true
      → is_held_twice (suspects_of marks es) h.roid ≡ is_held_twice (holders_of es) h.roid
  told_by_suspects h suspect = ap (nat_lt 1) (held_is h.roid (suspects_of marks es)
      ∙ held_by_suspects h.roid suspect (holders_of es) ∙ sym (held_is h.roid (holders_of es)))

  -- ---- the keys of those that share one

  abbrev told : List Holder → Holder → List KeyName
  told hs h = flaw_of (is_held_twice hs h.roid) h.key

  among_suspects : (hs : List Holder)
      → flat_map (told (suspects_of marks es)) (filter (is_suspect marks) hs)
      ≡ flat_map (told (holders_of es)) hs
  among_suspects [] = refl
  among_suspects (h ∷ hs) = by (is_suspect marks h) refl (among_suspects hs)
    where
      by : (b : Bool) → is_suspect marks h ≡ b
          → flat_map (told (suspects_of marks es)) (filter (is_suspect marks) hs)
          ≡ flat_map (told (holders_of es)) hs
          → flat_map (told (suspects_of marks es))
          (cond b (h ∷ filter (is_suspect marks) hs) (filter (is_suspect marks) hs))
          ≡ flat_map (told (holders_of es)) (h ∷ hs)
      by true is had = λ i. flaw_of (told_by_suspects h is i) h.key ++ had i
      by false isnt had = had
          ∙ ap (λ b. flaw_of b h.key ++ flat_map (told (holders_of es)) hs) (sym (suspect_if_shared h isnt))

  -- by objects
  told_by_objects : (t : KeyName → Bool) (ds : List Entry)
      → flat_map (λ (h : Holder). flaw_of (t h.roid) h.key) (holders_of ds)
      ≡ flat_map (λ (e : Entry). flaw_of (option_map_or t (roid_of e) false) e.0) ds
  told_by_objects t [] = refl
  told_by_objects t (e ∷ ds) = by (roid_of e) (told_by_objects t ds)
    where
      by : (o : Option KeyName) → flat_map (λ (h : Holder). flaw_of (t h.roid) h.key) (holders_of ds)
          ≡ flat_map (λ (d : Entry). flaw_of (option_map_or t (roid_of d) false) d.0) ds
          → flat_map (λ (h : Holder). flaw_of (t h.roid) h.key)
          (option_to_list (option_map (λ q. record { roid = q; key = e.0 }) o) ++ holders_of ds)
          ≡ flaw_of (option_map_or t o false) e.0
          ++ flat_map (λ (d : Entry). flaw_of (option_map_or t (roid_of d) false) d.0) ds
      by None had = had
      by (Some q) had = ap (λ l. flaw_of (t q) e.0 ++ l) had

  -- what the suspects tell is what is told of all objects
  pub shared_are_told : sharing_keys (suspects_of marks es) ≡ flaws Roids None es
  shared_are_told = among_suspects (holders_of es)
      ∙ ap (λ (t : KeyName → Bool). flat_map (λ (h : Holder). flaw_of (t h.roid) h.key) (holders_of es))
      (λ i r. shared_is es r i)
      ∙ told_by_objects (is_shared es) es
