-- Domains come before NNDNs: where an NNDN comes, it is known which domains there are.
use Rattle.std.proofs.Common.{◌≡◌, ℕ, Bool, true, false, cond, ◌&&◌, ◌||◌, List, [], ◌∷◌, ◌++◌}
use Rattle.std.proofs.Common.{Some, is_some, refl, sym, ap, ◌∙◌}
use Rattle.std.specs.List.{AllByRecursion, list_any}
use Rattle.std.specs.List.Sorted.{IsStrictlySortedBy}
use Rattle.std.specs.Map.{lookup, keys_of}
use Rattle.std.specs.Ordering.{is_eq}
use Rattle.std.specs.BTreeSet as sorted
use Rattle.std.specs.BTreeSet.{BTreeSet}
use Rattle.std.specs.declared.cmp.Ordering.TheVariants.{Less}
use Rattle.std.proofs.lemmas.List.Folds.{list_any-append}
use Rattle.esc_envelope.specs.declared.kind.Kind.{Kind}
use Rattle.esc_envelope.specs.declared.kind.Kind.TheVariants.{Registrar, Contact, Host, Domain, Idn, Nndn}
use Rattle.esc_envelope.specs.Kinds.{is_kind}
use Rattle.esc_apply.specs.ObjectStreams.{Entry, InOrder}
use Rattle.esc_tables.specs.KeyName.{KeyName, key_cmp, key_eq}
use Rattle.esc_tables.specs.KeyLaws.{keys_total, one_key, key_itself}
use Rattle.esc_tables.specs.TableRow.{key_named}
use Rattle.esc_check.specs.Gathered.{is_present}
use Rattle.esc_conformity.specs.Flaws.{is_doubled}
use Rattle.esc_conformity.specs.Surveys.{IsSurveyOf, reserves}
use Rattle.esc_conformity.specs.declared.survey.Survey.{Survey}
use Rattle.esc_conformity.proofs.Sets.{present_more, asked_of_either}

-- a domain's key is below an NNDN's
below_nndns : (text : List ℕ) (k : KeyName) → is_kind k.kind Nndn ≡ true
    → key_cmp (record { kind = Domain; text = text }) k ≡ Less
below_nndns text k nndn = by k.kind nndn
  where
    by : (kind : Kind) → is_kind kind Nndn ≡ true
        → key_cmp (record { kind = Domain; text = text }) (record { kind = kind; text = k.text }) ≡ Less
    by Registrar h = absurd cc
    by Contact h = absurd cc
    by Host h = absurd cc
    by Domain h = absurd cc
    by Idn h = absurd cc
    by Nndn h = refl

-- a key that is below another isn't equal to it
unlike_above : (q k : KeyName) → key_cmp q k ≡ Less → key_eq q k ≡ false
unlike_above q k below = ap is_eq below

-- a key below those that are left is none of them
none_left : (q k : KeyName) (left : List Entry) → key_cmp q k ≡ Less
    → AllByRecursion (λ y. key_cmp k y ≡ Less) (keys_of left) → is_present left q ≡ false
none_left q k [] below above = refl
none_left q k (x ∷ left) below above =
    let unlike = unlike_above q x.0 (keys_total.trans q k x.0 below above.0) in
    ap (λ b. is_some (cond b (Some x.1) (lookup (key_eq q) left))) unlike
    ∙ none_left q k left below above.1

-- a key that is below the next object's is among the objects before it, or nowhere
known_before : (q : KeyName) (es left : List Entry) (e : Entry) → InOrder (es ++ e ∷ left)
    → key_cmp q e.0 ≡ Less → is_present es q ≡ is_present (es ++ e ∷ left) q
unfolding IsStrictlySortedBy
known_before q [] left e ordered below = sym (
    ap (λ b. is_some (cond b (Some e.1) (lookup (key_eq q) left))) (unlike_above q e.0 below)
    ∙ none_left q e.0 left below ordered.0)
known_before q (x ∷ es) left e ordered below =
    by (key_eq q x.0) (known_before q es left e ordered.1 below)
  where
    by : (b : Bool) → is_present es q ≡ is_present (es ++ e ∷ left) q
        → is_some (cond b (Some x.1) (lookup (key_eq q) es))
        ≡ is_some (cond b (Some x.1) (lookup (key_eq q) (es ++ e ∷ left)))
    by true h = refl
    by false h = h

-- an NNDN is one of these objects, so a domain of its name is looked for
reserved_here : (q : KeyName) (es left : List Entry) (e : Entry) → reserves q e ≡ true
    → list_any (reserves q) (es ++ e ∷ left) ≡ true
reserved_here q es left e is = list_any-append (reserves q) es (e ∷ left)
    ∙ ap (λ b. list_any (reserves q) es || (b || list_any (reserves q) left)) is
    ∙ or_true (list_any (reserves q) es)
  where
    or_true : (b : Bool) → (b || true) ≡ true
    or_true true = refl
    or_true false = refl

no_nndn : (text : List ℕ) (k : KeyName) → is_kind k.kind Nndn ≡ true
    → key_eq (record { kind = Domain; text = text }) k ≡ false
no_nndn text k nndn = unlike_above (record { kind = Domain; text = text }) k (below_nndns text k nndn)

module _ (s : Survey) (old new : BTreeSet KeyName) (es left : List Entry) (e : Entry)
    (ordered : InOrder (es ++ e ∷ left)) (survey : IsSurveyOf (es ++ e ∷ left) s)
    (had : (q : KeyName) → sorted.contains key_cmp old q
    ≡ (sorted.contains key_cmp s.reserved q && is_present es q))
    (is : (q : KeyName) → sorted.contains key_cmp new q ≡ (sorted.contains key_cmp old q
    || (sorted.contains key_cmp s.reserved e.0 && key_eq q e.0))) where
  abbrev name : KeyName
  name = key_named Domain e.0.text

  found_there : is_kind e.0.kind Nndn ≡ true
      → sorted.contains key_cmp new name ≡ is_present (es ++ e ∷ left) name
  found_there nndn = is name
      ∙ ap (λ b. sorted.contains key_cmp old name || (sorted.contains key_cmp s.reserved e.0 && b))
      (no_nndn name.text e.0 nndn)
      ∙ drop_none (sorted.contains key_cmp old name) (sorted.contains key_cmp s.reserved e.0)
      ∙ had name
      ∙ ap (λ b. b && is_present es name) (survey.reserved name ∙ reserved_here name es left e asked)
      ∙ known_before name es left e ordered (below_nndns name.text e.0 nndn)
    where
      asked : reserves name e ≡ true
      asked = ap (λ b. b && key_eq name name) nndn ∙ key_itself name

      drop_none : (a b : Bool) → (a || (b && false)) ≡ a
      drop_none true b = refl
      drop_none false true = refl
      drop_none false false = refl

  -- an NNDN's name is a domain's, by the domains before it just where it is by all
  pub doubled_is : is_doubled (sorted.contains key_cmp new) e.0 ≡ is_doubled (is_present (es ++ e ∷ left)) e.0
  doubled_is = by (is_kind e.0.kind Nndn) refl
    where
      by : (b : Bool) → is_kind e.0.kind Nndn ≡ b
          → (b && sorted.contains key_cmp new name) ≡ (b && is_present (es ++ e ∷ left) name)
      by true nndn = found_there nndn
      by false other = refl

  -- the domains so far that have an NNDN's name
  pub taken_more : (q : KeyName) → sorted.contains key_cmp new q
      ≡ (sorted.contains key_cmp s.reserved q && is_present (es ++ e ∷ []) q)
  taken_more q = is q
      ∙ ap (λ b. b || (sorted.contains key_cmp s.reserved e.0 && key_eq q e.0)) (had q)
      ∙ asked_of_either (sorted.contains key_cmp s.reserved q)
      (sorted.contains key_cmp s.reserved e.0) (is_present es q) (key_eq q e.0)
      (λ same. ap (λ (k : KeyName). sorted.contains key_cmp s.reserved k) (one_key q e.0 same))
      ∙ ap (λ b. sorted.contains key_cmp s.reserved q && b) (sym (present_more q es e))
