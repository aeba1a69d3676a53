-- What a walk over objects gathers is what is found of them.
use Rattle.std.proofs.Common.{◌≡◌, ◌⊎◌, ◌+◌, inl, inr, arith, ℕ, ℤ, Bool, true, false, cond, not, ◌||◌, List}
use Rattle.std.proofs.Common.{[], ◌∷◌, ◌++◌, map, filter, refl, sym, ap, subst, ◌∙◌, append-nil}
use Rattle.std.specs.Prelude.{◌↔◌, if◌then◌else◌, Option, Some, None}
use Rattle.std.specs.BTreeSet as sorted
use Rattle.std.specs.BTreeSet.{insert_key}
use Rattle.std.specs.List.{Contains, AllByRecursion, IsDistinct, flat_map, list_any}
use Rattle.std.specs.List.Sorted.{IsStrictlySortedBy}
use Rattle.std.specs.Map.{keys_of}
use Rattle.std.specs.Ordering.{match_ordering, ordering_reverse}
use Rattle.std.specs.declared.cmp.Ordering.{Ordering}
use Rattle.std.specs.declared.cmp.Ordering.TheVariants.{Less}
use Rattle.std.proofs.lemmas.Bool.{false≢true}
use Rattle.std.proofs.lemmas.List.{map-append}
use Rattle.std.proofs.lemmas.List.Elements.{filter-append, Contains-append_left, Contains-append_right}
use Rattle.std.proofs.lemmas.List.Elements.{Contains-append_cases}
use Rattle.std.proofs.lemmas.List.Folds.{list_any-append}
use Rattle.std.proofs.lemmas.List.Kept.{IsStrictlySortedBy-filter}
use Rattle.std.proofs.lemmas.List.Sums.{sum_by-cons}
use Rattle.std.proofs.lemmas.Map.Keys.{IsDistinct-from_sorted}
use Rattle.std.proofs.lemmas.Map.Made.{is_some-lookup}
use Rattle.esc_apply.specs.ObjectStreams.{Entry, InOrder}
use Rattle.esc_envelope.specs.declared.kind.Kind.{Kind}
use Rattle.esc_envelope.specs.Kinds.{is_kind}
use Rattle.esc_envelope.specs.Watermark.{printed}
use Rattle.esc_tables.specs.KeyName.{KeyName, key_cmp, key_eq}
use Rattle.esc_tables.specs.ObjectValue.{RowValue, ObjectValue}
use Rattle.esc_check.specs.declared.field.LinkField.{LinkField}
use Rattle.esc_check.specs.declared.field.LinkField.TheVariants.{ClId, Registrant, IdnTableId}
use Rattle.esc_check.specs.declared.field.LinkField.TheVariants.{ContactId, HostName}
use Rattle.esc_check.specs.declared.walk.Verification.{Verification}
use Rattle.esc_check.specs.Counted.{came_of}
use Rattle.esc_check.specs.Fields.{cell, field_name, field_target, is_target, parent_fields, child_field}
use Rattle.esc_check.specs.FindingValue.{FindingValue}
use Rattle.esc_check.specs.Findings.{IsFinding, missing_target}
use Rattle.esc_check.specs.Gathered.{text_links, field_links, row_links, child_links, links_of}
use Rattle.esc_check.specs.Gathered.{is_present, link_findings, count_of_kind, number_findings}
use Rattle.esc_check.specs.Gathered.{count_findings, own_findings, object_findings, targets, all_links, Leads}
use Rattle.esc_check.specs.LinkValue.{LinkValue, link_to_name}
use Rattle.esc_check.specs.TableMap.{content_of_entries}
use Rattle.esc_check.proofs.FindingLaws.{to_findings, from_findings}
use Rattle.esc_tables.specs.KeyLaws.{keys_total, one_key}
use Rattle.esc_check.proofs.Members.{from_pieces, in_pieces, from_chosen, in_chosen, appended}
use Rattle.esc_check.specs.WritingLaws.{front_added}

-- keys that come in order are put after the others

in_the_middle : (P : KeyName → Type 0) (xs ys : List KeyName) (k : KeyName)
    → AllByRecursion P (xs ++ k ∷ ys) → P k
in_the_middle P [] ys k h = h.0
in_the_middle P (x ∷ xs) ys k h = in_the_middle P xs ys k h.1

put_last : (xs ys : List KeyName) (k : KeyName)
    → IsStrictlySortedBy key_cmp (xs ++ k ∷ ys) → insert_key key_cmp xs k ≡ xs ++ k ∷ []
unfolding IsStrictlySortedBy
put_last [] ys k h = refl
put_last (x ∷ xs) ys k h =
    let below = in_the_middle (λ y. key_cmp x y ≡ Less) xs ys k h.0 in
    ap (λ (o : Ordering). match_ordering o (k ∷ x ∷ xs) (x ∷ xs) (x ∷ insert_key key_cmp xs k))
    (keys_total.antisymm k x ∙ ap ordering_reverse below)
    ∙ ap (λ (l : List KeyName). x ∷ l) (put_last xs ys k h.1)

-- a key that is kept is put after the others, and one that isn't changes nothing
kept_last : (b : Bool) (xs ys : List KeyName) (k : KeyName) → IsStrictlySortedBy key_cmp (xs ++ cond b (k ∷ ys) ys)
    → cond b (insert_key key_cmp xs k) xs ≡ xs ++ cond b (k ∷ []) []
kept_last true xs ys k h = put_last xs ys k h
kept_last false xs ys k h = sym (append-nil xs)

kept_first : (b : Bool) (ys : List KeyName) (k : KeyName) → cond b (k ∷ ys) ys ≡ cond b (k ∷ []) [] ++ ys
kept_first true ys k = refl
kept_first false ys k = refl

-- one more is counted
one_counted : (b : Bool) (before now here rest all : ℕ) → now ≡ cond b (before + 1) before
    → here ≡ cond b 1 0 + rest → before + here ≡ all → now + rest ≡ all
one_counted true before now here rest all more first whole = omega arith
one_counted false before now here rest all more first whole = omega arith

-- what was met stays met

still_any : {X : Type 0} (test : X → Bool) (xs ys : List X)
    → list_any test xs ≡ true → list_any test (xs ++ ys) ≡ true
still_any test xs ys h = list_any-append test xs ys ∙ ap (λ (b : Bool). b || list_any test ys) h

-- what is let go at once would be let go later

chosen_twice : {X : Type 0} (p q : X → Bool) (xs : List X)
    → ((x : X) → q x ≡ false → p x ≡ false) → filter p (filter q xs) ≡ filter p xs
chosen_twice p q [] h = refl
chosen_twice {X} p q (x ∷ xs) h = pick (q x) refl (chosen_twice p q xs h)
  where
    pick : (b : Bool) → q x ≡ b → filter p (filter q xs) ≡ filter p xs
        → filter p (cond b (x ∷ filter q xs) (filter q xs)) ≡ cond (p x) (x ∷ filter p xs) (filter p xs)
    pick true e again = ap (λ (l : List X). cond (p x) (x ∷ l) l) again
    pick false e again = again ∙ ap (λ (b : Bool). cond b (x ∷ filter p xs) (filter p xs)) (sym (h x e))

not_true : (a b : Bool) → (a ≡ true → b ≡ true) → not a ≡ false → not b ≡ false
not_true true b h e = ap not (h refl)
not_true false b h e = absurd cc

link_findings-append : (present : KeyName → Bool) (a b : List LinkValue)
    → link_findings present (a ++ b) ≡ link_findings present a ++ link_findings present b
link_findings-append present a b =
    ap (map missing_target) (filter-append (λ (l : LinkValue). not (present l.to)) a b)
    ∙ map-append missing_target (filter (λ (l : LinkValue). not (present l.to)) a)
    (filter (λ (l : LinkValue). not (present l.to)) b)

-- one more object is taken in
pub leads_more : (w : ℤ) (shown : List ℕ) (g h : Verification) (k : KeyName)
    (o : ObjectValue) (left whole : List Entry) → InOrder whole → Leads w shown g ((k, o) ∷ left) whole
    → h.found.items ≡ g.found.items ++ own_findings w shown k o → h.met.keys
    ≡ (if is_target k.kind then insert_key key_cmp g.met.keys k else g.met.keys)
    → ((kind : Kind) → came_of h.came kind
    ≡ (if is_kind k.kind kind then came_of g.came kind + 1 else came_of g.came kind))
    → h.waiting.items ≡ g.waiting.items ++ filter (λ l. not (sorted.contains key_cmp g.met l.to))
    (links_of k o) → Leads w shown h left whole
leads_more w shown g h k o left whole ordered leads found met came waiting =
    let last : h.met.keys ≡ g.met.keys ++ targets (k ∷ []) = met ∙ kept_last
    (is_target k.kind) g.met.keys (targets (keys_of left)) k (subst (IsStrictlySortedBy key_cmp) (sym leads.met)
    (IsStrictlySortedBy-filter key_cmp (λ q. is_target q.kind) (keys_of whole) ordered)) in
    let grown : (q : KeyName)
    → sorted.contains key_cmp g.met q ≡ true → sorted.contains key_cmp h.met q ≡ true =
    λ q has. ap (list_any (λ y. key_eq q y)) last ∙ still_any (λ y. key_eq q y) g.met.keys (targets (k ∷ [])) has in
    record {
      found = front_added _ _ _ _ _ _ refl leads.found found;
      met = front_added _ _ _ _ _ _ (kept_first (is_target k.kind) (targets (keys_of left)) k) leads.met last;
      came = λ kind. one_counted (is_kind k.kind kind) _ _ _ _ _ (came kind)
          (sum_by-cons (λ (q : KeyName). cond (is_kind q.kind kind) 1 0) k (keys_of left)) (leads.came kind);
      waiting = λ present covers.
          let were : (l : LinkValue)
          → not (sorted.contains key_cmp g.met l.to) ≡ false → not (present l.to) ≡ false =
          λ l. not_true (sorted.contains key_cmp g.met l.to) (present l.to) (λ has. covers l.to (grown l.to has)) in
          let kept : link_findings present h.waiting.items
          ≡ link_findings present g.waiting.items ++ link_findings present (links_of k o) =
          ap (link_findings present) waiting
          ∙ link_findings-append present
          g.waiting.items (filter (λ l. not (sorted.contains key_cmp g.met l.to)) (links_of k o))
          ∙ ap (λ (ls : List LinkValue). link_findings present g.waiting.items ++ map missing_target ls)
          (chosen_twice (λ (l : LinkValue). not (present l.to))
          (λ (l : LinkValue). not (sorted.contains key_cmp g.met l.to)) (links_of k o) were) in
          front_added _ _ _ _ _ _ (link_findings-append present (links_of k o) (all_links left))
          (leads.waiting present (λ q has. covers q (grown q has))) kept;
    }

-- what is found of objects by themselves and then of all links is what is found of one object after
-- the other

module _ (present : KeyName → Bool) (w : ℤ) (shown : List ℕ) where
  abbrev own : Entry → List FindingValue
  own e = own_findings w shown e.0 e.1

  abbrev linked : Entry → List FindingValue
  linked e = link_findings present (links_of e.0 e.1)

  abbrev lost : LinkValue → Bool
  lost l = not (present l.to)

  to_each : (es : List Entry) (f : FindingValue)
      → Contains (flat_map own es ++ link_findings present (all_links es)) f
      → Contains (flat_map (object_findings present w shown) es) f
  to_each es f h = elim (Contains-append_cases (flat_map own es) (link_findings present (all_links es)) f h) [
    | inl a ↦
        let r = from_pieces own es f a in
        in_pieces (object_findings present w shown) es r.0 f r.1 (Contains-append_right (linked r.0) (own r.0) f r.2)
    | inr b ↦
        let r = from_chosen lost missing_target (all_links es) f b in
        let e = from_pieces (λ (e : Entry). links_of e.0 e.1) es r.0 r.1 in
        let one = in_chosen lost missing_target (links_of e.0.0 e.0.1) r.0 e.2 r.2 in
        in_pieces (object_findings present w shown) es e.0 f e.1
        (Contains-append_left (linked e.0)
        (own e.0) f (subst (λ (x : FindingValue). Contains (linked e.0) x) (sym r.3) one))
  ]

  from_each : (es : List Entry) (f : FindingValue)
      → Contains (flat_map (object_findings present w shown) es) f
      → Contains (flat_map own es ++ link_findings present (all_links es)) f
  from_each es f h =
      let (e, has, of_one) = from_pieces (object_findings present w shown) es f h in
      elim (Contains-append_cases (linked e) (own e) f of_one) [
        | inl a ↦
            let r = from_chosen lost missing_target (links_of e.0 e.1) f a in
            let one = in_chosen lost missing_target (all_links es)
            r.0 (in_pieces (λ (x : Entry). links_of x.0 x.1) es e r.0 has r.1) r.2 in
            Contains-append_right (flat_map own es) (link_findings present (all_links es)) f (subst
            (λ (x : FindingValue). Contains (link_findings present (all_links es)) x) (sym r.3) one)
        | inr b ↦ Contains-append_left (flat_map own es)
            (link_findings present (all_links es)) f (in_pieces own es e f has b)
      ]

-- what is gathered of these entries
abbrev walked : List Entry → ℤ → List (Kind × ℕ) → List FindingValue
walked es w counts = (flat_map (λ e. own_findings w (printed w) e.0 e.1) es
    ++ link_findings (is_present es) (all_links es)) ++ flat_map (count_findings (keys_of es)) counts

walked_are : (es : List Entry) (w : ℤ) (counts : List (Kind × ℕ))
    → IsDistinct key_eq (keys_of es) → (f : FindingValue)
    → Contains (walked es w counts) f ↔ IsFinding (content_of_entries es) w counts f
walked_are es w counts apart f = (
  λ h. to_findings es w counts apart f (of_each.1 (of_first.0 h)),
  λ h. of_first.1 (of_each.0 (from_findings es w counts apart f h)),
)
  where
    first : List FindingValue
    first = flat_map (λ e. own_findings w (printed w) e.0 e.1) es ++ link_findings (is_present es) (all_links es)

    each : List FindingValue
    each = flat_map (object_findings (is_present es) w (printed w)) es

    last : List FindingValue
    last = flat_map (count_findings (keys_of es)) counts

    -- either list holds what is in `each` or in `last`
    of_first : Contains (first ++ last) f ↔ (Contains each f ⊎ Contains last f)
    of_first = appended first last f (
      to_each (is_present es) w (printed w) es f,
      from_each (is_present es) w (printed w) es f,
    ) (λ h. h, λ h. h)

    of_each : Contains (each ++ last) f ↔ (Contains each f ⊎ Contains last f)
    of_each = appended each last f (λ h. h, λ h. h) (λ h. h, λ h. h)

-- each link leads to a key of which it could be told whether it was met

a_target : (g : LinkField) → is_target (field_target g) ≡ true
a_target ClId = refl
a_target Registrant = refl
a_target IdnTableId = refl
a_target ContactId = refl
a_target HostName = refl

module _ (p q : KeyName → Bool) (alike : (k : KeyName) → is_target k.kind ≡ true → p k ≡ q k) where
  of_text : (k : KeyName) (g : LinkField) (text : List ℕ)
      → link_findings p (text_links k g text) ≡ link_findings q (text_links k g text)
  of_text k g [] = refl
  of_text k g (b ∷ bs) =
      let l = link_to_name k g (b ∷ bs) in
      ap (λ (c : Bool). map missing_target (cond (not c) (l ∷ []) [])) (alike l.to (a_target g))

  of_row : (k : KeyName) (r : RowValue) (g : Option LinkField)
      → link_findings p (row_links k r g) ≡ link_findings q (row_links k r g)
  of_row k r None = refl
  of_row k r (Some g) = of_text k g (cell (field_name g) r)

  of_pieces : {X : Type 0} (links : X → List LinkValue)
      → ((x : X) → link_findings p (links x) ≡ link_findings q (links x)) → (xs : List X)
      → link_findings p (flat_map links xs) ≡ link_findings q (flat_map links xs)
  of_pieces links each [] = refl
  of_pieces links each (x ∷ xs) = link_findings-append p (links x) (flat_map links xs)
      ∙ (λ i. each x i ++ of_pieces links each xs i)
      ∙ sym (link_findings-append q (links x) (flat_map links xs))

  of_object : (e : Entry) → link_findings p (links_of e.0 e.1) ≡ link_findings q (links_of e.0 e.1)
  of_object (k, o) =
      let parent = flat_map (field_links k o.parent) (parent_fields k.kind) in
      let children = flat_map (child_links k) o.children in
      link_findings-append p parent children
      ∙ (λ i. of_pieces (field_links k o.parent) (λ g. of_text k g (cell (field_name g) o.parent))
      (parent_fields k.kind) i
      ++ of_pieces (child_links k) (λ r. of_row k r (child_field k.kind r.table)) o.children i)
      ∙ sym (link_findings-append q parent children)

  of_objects : (es : List Entry) → link_findings p (all_links es) ≡ link_findings q (all_links es)
  of_objects es = of_pieces (λ (e : Entry). links_of e.0 e.1) of_object es

-- a key to which a link may lead is among the keys that were kept, if it is among all
apart_by_kind : (q k : KeyName) (b : Bool) → key_eq q k ≡ b
    → is_target q.kind ≡ true → is_target k.kind ≡ false → b ≡ false
apart_by_kind q k true same may lacks =
    absurd (false≢true (sym lacks ∙ ap (λ (z : KeyName). is_target z.kind) (sym (one_key q k same)) ∙ may))
apart_by_kind q k false same may lacks = refl

among_targets : (q : KeyName) → is_target q.kind ≡ true → (ks : List KeyName)
    → list_any (λ y. key_eq q y) (targets ks) ≡ list_any (λ y. key_eq q y) ks
among_targets q may [] = refl
among_targets q may (k ∷ ks) = pick (is_target k.kind) refl (among_targets q may ks)
  where
    has : List KeyName → Bool
    has = list_any (λ (y : KeyName). key_eq q y)

    pick : (b : Bool) → is_target k.kind ≡ b → has (targets ks) ≡ has ks
        → has (cond b (k ∷ targets ks) (targets ks)) ≡ (key_eq q k || has ks)
    pick true e again = ap (λ (c : Bool). key_eq q k || c) again
    pick false e again = again ∙ ap (λ (c : Bool). c || has ks) (sym (apart_by_kind q k (key_eq q k) refl may e))

none_left : (n all : ℕ) → n + 0 ≡ all → n ≡ all
none_left n all e = omega arith

-- at the end of the walk
pub gathered_all : (w : ℤ) (g : Verification) (es : List Entry) (counts : List (Kind × ℕ))
    → Leads w (printed w) g [] es
    → (g.found.items ++ map missing_target (filter (λ l. not (sorted.contains key_cmp g.met l.to))
    g.waiting.items)) ++ flat_map (number_findings (came_of g.came)) counts ≡ walked es w counts
gathered_all w g es counts leads =
    let keys : g.met.keys ≡ targets (keys_of es) = sym (append-nil _) ∙ leads.met in
    let own = sym (append-nil _) ∙ leads.found in
    let met : (q : KeyName) → is_target q.kind ≡ true → sorted.contains key_cmp g.met q ≡ is_present es q =
    λ q may. ap (list_any (λ y. key_eq q y)) keys ∙ among_targets q may (keys_of es)
    ∙ sym (is_some-lookup (key_eq q) es) in
    let links = sym (append-nil _) ∙ leads.waiting (sorted.contains key_cmp g.met) (λ q has. has)
    ∙ of_objects (sorted.contains key_cmp g.met) (is_present es) met es in
    let came : (kind : Kind) → came_of g.came kind ≡ count_of_kind (keys_of es) kind =
    λ kind. none_left _ _ (leads.came kind) in
    λ i. (own i ++ links i) ++ flat_map (number_findings (λ kind. came kind i)) counts

-- what was gathered of all objects are their findings
pub walked_found : (w : ℤ) (g : Verification) (es : List Entry)
    (counts : List (Kind × ℕ)) (found v : List FindingValue) → InOrder es → Leads w (printed w) g [] es
    → found ≡ (g.found.items
    ++ map missing_target (filter (λ l. not (sorted.contains key_cmp g.met l.to)) g.waiting.items))
    ++ flat_map (number_findings (came_of g.came)) counts
    → ((f : FindingValue) → Contains v f ↔ Contains found f)
    → (f : FindingValue) → Contains v f ↔ IsFinding (content_of_entries es) w counts f
walked_found w g es counts found v ordered leads is same f =
    let apart = IsDistinct-from_sorted key_cmp (keys_of es) ordered in
    let all = is ∙ gathered_all w g es counts leads in
    let are = walked_are es w counts apart f in (
      λ h. are.0 (subst (λ (l : List FindingValue). Contains l f) all ((same f).0 h)),
      λ h. (same f).1 (subst (λ (l : List FindingValue). Contains l f) (sym all) (are.1 h)),
    )
