-- What is gathered is exactly what is found.
use Rattle.std.proofs.Common.{◌≡◌, ◌≢◌, ◌⊎◌, inl, inr, ℕ, ℤ, Bool, true, false, cond, not}
use Rattle.std.proofs.Common.{◌&&◌, List, [], ◌∷◌, ◌++◌, Option, Some, None, is_some, refl, sym, ap}
use Rattle.std.proofs.Common.{subst, ◌∙◌, arith}
use Rattle.std.specs.Prelude.{◌↔◌, codes, ◌<ℤ◌, ◌==◌, int_lt}
use Rattle.std.proofs.lemmas.Int.{ints}
use Rattle.std.proofs.lemmas.Bool.{and_parts, eqb-false, false_from_ne_true, ne_eqb, not_from_false, false≢true}
use Rattle.std.specs.List.{Contains, IsDistinct, flat_map, list_any}
use Rattle.std.specs.List.Sorted.{IsStrictlySortedBy}
use Rattle.std.specs.Map.{keys_of}
use Rattle.std.specs.Str.{bytes_eq}
use Rattle.std.proofs.lemmas.Slice.Eq.{bytes_eq-Decides}
use Rattle.std.proofs.lemmas.List.Elements.{Contains-append_left, Contains-append_right, Contains-append_cases}
use Rattle.std.proofs.lemmas.Map.Keys.{IsDistinct-from_sorted}
use Rattle.std.proofs.lemmas.Map.Views.{Contains-from_lookup, lookup-from_Contains}
use Rattle.esc_bundle.specs.ElementLaws.{nothing_in, first_in, only}
use Rattle.esc_envelope.specs.declared.kind.Kind.{Kind}
use Rattle.esc_envelope.specs.declared.kind.Kind.TheVariants.{Registrar, Contact, Host, Domain, Idn, Nndn}
use Rattle.esc_envelope.specs.Watermark.{printed, watermark_of}
use Rattle.esc_tables.specs.KeyName.{KeyName, key_cmp, key_eq}
use Rattle.esc_tables.specs.ObjectValue.{RowValue, ObjectValue}
use Rattle.esc_apply.specs.ObjectStreams.{Entry}
use Rattle.esc_check.specs.declared.field.LinkField.{LinkField}
use Rattle.esc_check.specs.Export.{is_of_table}
use Rattle.esc_check.specs.Fields.{cell, field_name, is_domain, parent_fields, child_field}
use Rattle.esc_check.specs.Fields.{status_table, created, expires}
use Rattle.esc_check.specs.FindingValue.{FindingValue}
use Rattle.esc_check.specs.Findings.{IsMissing, IsMiscounted, IsUnknown, IsMixed, IsLate, IsEarly}
use Rattle.esc_check.specs.Findings.{IsMalformed, IsOwn, IsFinding, missing_target, miscounted}
use Rattle.esc_check.specs.Findings.{unknown_status, mixed_status, late, early, malformed}
use Rattle.esc_check.specs.Gathered.{is_empty_text, text_links, field_links, row_links, child_links}
use Rattle.esc_check.specs.Gathered.{links_of, is_present, link_findings, count_of_kind, count_findings}
use Rattle.esc_check.specs.Gathered.{row_status, statuses_in, statuses_of, is_status, is_ok, is_mixed}
use Rattle.esc_check.specs.Gathered.{one_unknown, status_findings, is_known_after, is_known_before}
use Rattle.esc_check.specs.Gathered.{is_malformed, late_findings, early_findings, malformed_findings}
use Rattle.esc_check.specs.Gathered.{moment_findings, form_findings, own_findings, object_findings}
use Rattle.esc_check.specs.LinkValue.{LinkValue, link_to_name}
use Rattle.esc_check.specs.Links.{LinksBy, IsLinkOf}
use Rattle.esc_check.specs.Statuses.{status_words, IsStatusOf}
use Rattle.esc_check.specs.TableMap.{content_of_entries}
use Rattle.esc_tables.specs.KeyLaws.{keys_alike, one_key}
use Rattle.esc_check.proofs.Keys.{count_has, count_is}
use Rattle.esc_check.proofs.Members.{from_pieces, in_pieces, from_chosen, in_chosen, from_any, any_from, appended}

lt_is : (a b : ℤ) → int_lt a b ≡ true → a <ℤ b
lt_is a b h = grind (arith, ints)

is_lt : (a b : ℤ) → a <ℤ b → int_lt a b ≡ true
is_lt a b h = grind (arith, ints)

-- what one test gives
given : (b : Bool) (x f : FindingValue) → Contains (cond b (x ∷ []) []) f ↔ ((b ≡ true) × (f ≡ x))
given true x f = (
  λ h. (refl, sym (only x f h)),
  λ p. subst (λ (g : FindingValue). Contains (x ∷ []) g) (sym p.1) (first_in x []),
)
given false x f = (λ h. absurd (nothing_in f h), λ p. absurd (false≢true p.0))

unless : (b : Bool) (x f : FindingValue) → Contains (cond b [] (x ∷ [])) f ↔ ((b ≡ false) × (f ≡ x))
unless false x f = (
  λ h. (refl, sym (only x f h)),
  λ p. subst (λ (g : FindingValue). Contains (x ∷ []) g) (sym p.1) (first_in x []),
)
unless true x f = (λ h. absurd (nothing_in f h), λ p. absurd (false≢true (sym p.0)))

gone : {X : Type 0} (o : Option X) → not (is_some o) ≡ true → o ≡ None
gone None h = refl
gone (Some x) h = absurd (false≢true h)

is_full : (b : ℕ) (bs : List ℕ) → (b ∷ bs) ≢ []
is_full b bs = λ e. false≢true (ap is_empty_text e)

not_empty : (text : List ℕ) → text ≢ [] → is_empty_text text ≡ false
not_empty [] some = absurd (some refl)
not_empty (b ∷ bs) some = refl

-- V1

names : (k : KeyName) (g : LinkField) (text : List ℕ) (l : LinkValue)
    → Contains (text_links k g text) l → (text ≢ []) × (l ≡ link_to_name k g text)
names k g [] l h = absurd (nothing_in l h)
names k g (b ∷ bs) l h = (is_full b bs, sym (only (link_to_name k g (b ∷ bs)) l h))

named : (k : KeyName) (g : LinkField) (text : List ℕ) (l : LinkValue)
    → text ≢ [] → l ≡ link_to_name k g text → Contains (text_links k g text) l
named k g [] l some is = absurd (some refl)
named k g (b ∷ bs) l some is = subst (λ (m : LinkValue). Contains (link_to_name k g (b ∷ bs) ∷ []) m)
    (sym is) (first_in (link_to_name k g (b ∷ bs)) [])

row_names : (k : KeyName) (r : RowValue) (o : Option LinkField) (l : LinkValue)
    → Contains (row_links k r o) l → (g : LinkField) × (o ≡ Some g) × LinksBy k r g l
row_names k r None l h = absurd (nothing_in l h)
row_names k r (Some g) l h = (g, refl, names k g (cell (field_name g) r) l h)

links_are : (k : KeyName) (o : ObjectValue) (l : LinkValue) → Contains (links_of k o) l ↔ IsLinkOf k o l
links_are k o l = appended (flat_map (field_links k o.parent) (parent_fields k.kind))
    (flat_map (child_links k) o.children) l (
      λ a. let (g, has, named_so) = from_pieces (field_links k o.parent) (parent_fields k.kind) l a in
          (g, has, names k g (cell (field_name g) o.parent) l named_so),
      λ p. let (g, has, by) = p in
          in_pieces (field_links k o.parent)
          (parent_fields k.kind) g l has (named k g (cell (field_name g) o.parent) l by.0 by.1),
    ) (
      λ b. let (r, has, named_so) = from_pieces (child_links k) o.children l b in
          let (g, table, by) = row_names k r (child_field k.kind r.table) l named_so in
          (r, g, has, table, by),
      λ p. let (r, g, has, table, by) = p in
          in_pieces (child_links k) o.children r l has
          (subst (λ (x : Option LinkField). Contains (row_links k r x) l)
          (sym table) (named k g (cell (field_name g) r) l by.0 by.1)),
    )

from_of : (k : KeyName) (o : ObjectValue) (l : LinkValue) → IsLinkOf k o l → l.from ≡ k
from_of k o l (inl (g, has, by)) = ap (λ (m : LinkValue). m.from) by.1
from_of k o l (inr (r, g, has, table, by)) = ap (λ (m : LinkValue). m.from) by.1

links_found : (es : List Entry) (k : KeyName) (o : ObjectValue) (f : FindingValue)
    → content_of_entries es k ≡ Some o
    → Contains (link_findings (is_present es) (links_of k o)) f → IsMissing (content_of_entries es) f
links_found es k o f at h =
    let r = from_chosen (λ (l : LinkValue). not (is_present es l.to)) missing_target (links_of k o) f h in
    let link = (links_are k o r.0).0 r.1 in
    let from = from_of k o r.0 link in (
      r.0,
      (
        o,
        subst (λ (q : KeyName). content_of_entries es q ≡ Some o) (sym from) at,
        subst (λ (q : KeyName). IsLinkOf q o r.0) (sym from) link,
      ),
      gone (content_of_entries es r.0.to) r.2,
      r.3,
    )

found_links : (es : List Entry) (k : KeyName) (o : ObjectValue) (l : LinkValue) (f : FindingValue)
    → IsLinkOf k o l → content_of_entries es l.to ≡ None → f ≡ missing_target l
    → Contains (link_findings (is_present es) (links_of k o)) f
found_links es k o l f link absent is =
    let lost : not (is_present es l.to) ≡ true = ap (λ (x : Option ObjectValue). not (is_some x)) absent in
    subst (λ (g : FindingValue). Contains (link_findings (is_present es) (links_of k o)) g) (sym is)
    (in_chosen (λ (m : LinkValue). not (is_present es m.to))
    missing_target (links_of k o) l ((links_are k o l).1 link) lost)

-- V2

counts_found : (es : List Entry) (counts : List (Kind × ℕ)) (f : FindingValue)
    → IsDistinct key_eq (keys_of es) → Contains (flat_map (count_findings (keys_of es)) counts) f
    → IsMiscounted (content_of_entries es) counts f
counts_found es counts f apart h =
    let r = from_pieces (count_findings (keys_of es)) counts f h in
    let n = count_of_kind (keys_of es) r.0.0 in
    let u = (unless (n == r.0.1) (miscounted r.0.0 r.0.1 n) f).0 r.2 in
    (r.0.0, r.0.1, n, r.1, count_has es r.0.0 apart, eqb-false n r.0.1 u.0, u.1)

found_counts : (es : List Entry) (counts : List (Kind × ℕ)) (f : FindingValue)
    → IsDistinct key_eq (keys_of es) → IsMiscounted (content_of_entries es) counts f
    → Contains (flat_map (count_findings (keys_of es)) counts) f
found_counts es counts f apart (kind, declared, n, has, many, other, is) =
    let c = count_of_kind (keys_of es) kind in
    let same : n ≡ c = count_is es kind n apart many in
    in_pieces (count_findings (keys_of es)) counts (kind, declared) f has
    ((unless (c == declared) (miscounted kind declared c) f).1 (
      ne_eqb c
          declared (subst (λ (m : ℕ). m ≢ declared) same other),
      is ∙ ap (miscounted kind declared) same,
    ))

-- V3 and V4

status_at : (table : List ℕ) (r : RowValue) (s : List ℕ)
    → Contains (row_status table r) s → (r.table ≡ table) × (cell (codes "status") r ≡ s) × (s ≢ [])
status_at table r s h = pick (is_of_table table r) refl (cell (codes "status") r) refl h
  where
    pick : (b : Bool) → is_of_table table r ≡ b → (c : List ℕ)
        → cell (codes "status") r ≡ c → Contains (cond b (cond (is_empty_text c) [] (c ∷ [])) []) s
        → (r.table ≡ table) × (cell (codes "status") r ≡ s) × (s ≢ [])
    pick false e c f h = absurd (nothing_in s h)
    pick true e [] f h = absurd (nothing_in s h)
    pick true e (b ∷ bs) f h =
        let same : (b ∷ bs) ≡ s = only (b ∷ bs) s h in
        ((bytes_eq-Decides r.table table).0 e, f ∙ same, λ n. is_full b bs (same ∙ n))

at_status : (table : List ℕ) (r : RowValue) (s : List ℕ)
    → r.table ≡ table → cell (codes "status") r ≡ s → s ≢ [] → Contains (row_status table r) s
at_status table r s same is some =
    let c = cell (codes "status") r in
    let among : is_of_table table r ≡ true = (bytes_eq-Decides r.table table).1 same in
    let full : is_empty_text c ≡ false = not_empty c (λ e. some (sym is ∙ e)) in
    subst (λ (b : Bool). Contains (cond b (cond (is_empty_text c) [] (c ∷ [])) []) s) (sym among)
    (subst (λ (b : Bool). Contains (cond b [] (c ∷ [])) s)
    (sym full) (subst (λ (x : List ℕ). Contains (c ∷ []) x) is (first_in c [])))

in_table : (table : Option (List ℕ)) (rows : List RowValue) (s : List ℕ) → Contains (statuses_in table rows) s
    → (r : RowValue) × Contains rows r × (table ≡ Some r.table) × (cell (codes "status") r ≡ s) × (s ≢ [])
in_table None rows s h = absurd (nothing_in s h)
in_table (Some table) rows s h =
    let r = from_pieces (row_status table) rows s h in
    let at = status_at table r.0 s r.2 in
    (r.0, r.1, ap (λ (t : List ℕ). Some t) (sym at.0), at.1, at.2)

statuses_are : (k : KeyName) (o : ObjectValue) (s : List ℕ) → Contains (statuses_of k o) s → IsStatusOf k o s
statuses_are k o s h = in_table (status_table k.kind) o.children s h

are_statuses : (k : KeyName) (o : ObjectValue) (s : List ℕ) → IsStatusOf k o s → Contains (statuses_of k o) s
are_statuses k o s (r, has, table, is, some) =
    subst (λ (t : Option (List ℕ)). Contains (statuses_in t o.children) s) (sym table)
    (in_pieces (row_status r.table) o.children r s has (at_status r.table r s refl is some))

unlisted : (k : Kind) (s : List ℕ) → is_status k s ≡ false → Contains (status_words k) s → ⊥
unlisted k s h has = false≢true (sym h
    ∙ any_from (λ (w : List ℕ). bytes_eq w s) (status_words k) s has ((bytes_eq-Decides s s).1 refl))

is_unlisted : (k : Kind) (s : List ℕ) → (Contains (status_words k) s → ⊥) → is_status k s ≡ false
is_unlisted k s h = false_from_ne_true (is_status k s) (λ e.
    let w = from_any (λ (w : List ℕ). bytes_eq w s) (status_words k) e in
    h (subst (λ (t : List ℕ). Contains (status_words k) t) ((bytes_eq-Decides w.0 s).0 w.2) w.1))

domain_is : (k : Kind) → is_domain k ≡ true → k ≡ Domain
domain_is Domain h = refl
domain_is Registrar h = absurd (false≢true h)
domain_is Contact h = absurd (false≢true h)
domain_is Host h = absurd (false≢true h)
domain_is Idn h = absurd (false≢true h)
domain_is Nndn h = absurd (false≢true h)

ok_is : (s : List ℕ) → is_ok s ≡ true → s ≡ codes "ok"
ok_is s h = (bytes_eq-Decides s (codes "ok")).0 h

other_is : (s : List ℕ) → not (is_ok s) ≡ true → s ≢ codes "ok"
other_is s h = λ e. false≢true (sym (ap (λ (t : List ℕ). not (is_ok t)) e) ∙ h)

is_other : (s : List ℕ) → s ≢ codes "ok" → not (is_ok s) ≡ true
is_other s h = not_from_false (is_ok s) (false_from_ne_true (is_ok s) (λ e. h (ok_is s e)))

mixed_is : (k : KeyName) (o : ObjectValue) (f : FindingValue)
    → is_mixed k.kind (statuses_of k o) ≡ true → f ≡ mixed_status k → IsMixed k o f
mixed_is k o f h is =
    let p = and_parts _ _ h in
    let q = and_parts _ _ p.1 in
    let one = from_any is_ok (statuses_of k o) q.0 in
    let other = from_any (λ (s : List ℕ). not (is_ok s)) (statuses_of k o) q.1 in (
      domain_is k.kind p.0,
      statuses_are k o (codes "ok") (subst (λ (s : List ℕ). Contains (statuses_of k o) s) (ok_is one.0 one.2) one.1),
      (other.0, statuses_are k o other.0 other.1, other_is other.0 other.2),
      is,
    )

is_mixed_of : (k : KeyName) (o : ObjectValue) (f : FindingValue)
    → IsMixed k o f → is_mixed k.kind (statuses_of k o) ≡ true
is_mixed_of k o f (domain, ok, (s, has, other), is) =
    let ss = statuses_of k o in
    let rest : Bool = list_any (λ t. not (is_ok t)) ss in
    let one : list_any is_ok ss ≡ true = any_from is_ok ss (codes "ok") (are_statuses k o (codes "ok") ok) refl in
    let two : rest ≡ true =
    any_from (λ (t : List ℕ). not (is_ok t)) ss s (are_statuses k o s has) (is_other s other) in
    ap (λ (d : Kind). is_domain d && (list_any is_ok ss && rest)) domain ∙ ap (λ (b : Bool). b && rest) one ∙ two

statuses_found : (k : KeyName) (o : ObjectValue) (f : FindingValue)
    → Contains (status_findings k (statuses_of k o)) f ↔ (IsUnknown k o f ⊎ IsMixed k o f)
statuses_found k o f =
    let mixed = given (is_mixed k.kind (statuses_of k o)) (mixed_status k) f in
    appended (flat_map (one_unknown k) (statuses_of k o))
    (cond (is_mixed k.kind (statuses_of k o)) (mixed_status k ∷ []) []) f (
      λ a. let (s, has, one) = from_pieces (one_unknown k) (statuses_of k o) f a in
          let u = (unless (is_status k.kind s) (unknown_status k s) f).0 one in
          (s, statuses_are k o s has, unlisted k.kind s u.0, u.1),
      λ p. let (s, has, other, is) = p in
          in_pieces (one_unknown k) (statuses_of k o) s f (are_statuses k o s has)
          ((unless (is_status k.kind s) (unknown_status k s) f).1 (is_unlisted k.kind s other, is)),
    )
    (λ b. let g = mixed.0 b in mixed_is k o f g.0 g.1, λ m. mixed.1 (is_mixed_of k o f m, m.3))

-- V5, V6 and V7

after_is : (d : Option ℤ) (w : ℤ) → is_known_after d w ≡ true → (m : ℤ) × (d ≡ Some m) × (w <ℤ m)
after_is None w h = absurd (false≢true h)
after_is (Some m) w h = (m, refl, lt_is w m h)

before_is : (e d : Option ℤ)
    → is_known_before e d ≡ true → (m : ℤ) × (n : ℤ) × (e ≡ Some m) × (d ≡ Some n) × (m <ℤ n)
before_is None d h = absurd (false≢true h)
before_is (Some m) None h = absurd (false≢true h)
before_is (Some m) (Some n) h = (m, n, refl, refl, lt_is m n h)

moments_found : (w : ℤ) (k : KeyName) (o : ObjectValue) (f : FindingValue) → Contains
    (moment_findings w (printed w) k (created k o) (expires k o)) f ↔ (IsLate w k o f ⊎ IsEarly k o f)
moments_found w k o f =
    let creation : Option ℤ = watermark_of (created k o) in
    let expiry : Option ℤ = watermark_of (expires k o) in
    let after = given (is_known_after creation w) (late k (created k o) (printed w)) f in
    let before = given (is_known_before expiry creation) (early k (expires k o) (created k o)) f in
    appended (late_findings w (printed w) k (created k o)) (early_findings k (expires k o) (created k o)) f (
      λ a. let g = after.0 a in
          let (d, at, later) = after_is creation w g.0 in
          (d, at, later, g.1),
      λ p. let (d, at, later, is) = p in
          after.1 (ap (λ (x : Option ℤ). is_known_after x w) at ∙ is_lt w d later, is),
    ) (
      λ b. let g = before.0 b in
          let (e, d, at_expiry, at_creation, sooner) = before_is expiry creation g.0 in
          (e, d, at_expiry, at_creation, sooner, g.1),
      λ p. let (e, d, at_expiry, at_creation, sooner, is) = p in
          before.1 (
            ap (λ (x : Option ℤ). is_known_before x creation) at_expiry
                ∙ ap (is_known_before (Some e)) at_creation ∙ is_lt e d sooner,
            is,
          ),
    )

malformed_found : (k : KeyName) (field text : List ℕ) (f : FindingValue)
    → Contains (malformed_findings k field text) f ↔ IsMalformed k field text f
malformed_found k field text f =
    let test = given (is_malformed text) (malformed k field text) f in (
      λ h. let g = test.0 h in
          let p = and_parts _ _ g.0 in (
            λ e. false≢true (sym (ap (λ (t : List ℕ). not (is_empty_text t)) e) ∙ p.0),
            gone (watermark_of text) p.1,
            g.1,
          ),
      λ m. let (some, none, is) = m in
          test.1 (
            ap (λ (b : Bool). not b && not (is_some (watermark_of text))) (not_empty text some)
                ∙ ap (λ (x : Option ℤ). not (is_some x)) none,
            is,
          ),
    )

-- all of them

own_found : (w : ℤ) (k : KeyName) (o : ObjectValue) (f : FindingValue)
    → Contains (own_findings w (printed w) k o) f ↔ IsOwn w k o f
own_found w k o f =
    let c : List ℕ = created k o in
    let e : List ℕ = expires k o in
    appended (status_findings k (statuses_of k o))
    (moment_findings w (printed w) k c e ++ form_findings k c e) f (statuses_found k o f)
    (appended (moment_findings w (printed w) k c e) (form_findings k c e) f (moments_found w k o f)
    (appended (malformed_findings k (codes "crDate") c) (malformed_findings k (codes "exDate") e) f
    (malformed_found k (codes "crDate") c f) (malformed_found k (codes "exDate") e f)))

-- what is gathered of these entries, of which each has a key of its own
module _ (es : List Entry) (w : ℤ) (counts : List (Kind × ℕ)) (apart : IsDistinct key_eq (keys_of es)) where
  abbrev pieces : Entry → List FindingValue
  pieces = object_findings (is_present es) w (printed w)

  abbrev declared : Kind × ℕ → List FindingValue
  declared = count_findings (keys_of es)

  object_found : (k : KeyName) (o : ObjectValue) (f : FindingValue) → content_of_entries es k ≡ Some o
      → Contains (pieces (k, o)) f → IsFinding (content_of_entries es) w counts f
  object_found k o f at h = elim (Contains-append_cases (link_findings (is_present es) (links_of k o))
      (own_findings w (printed w) k o) f h) [
        | inl a ↦ inl (links_found es k o f at a)
        | inr b ↦ inr (inr (k, o, at, (own_found w k o f).0 b))
      ]

  found_in : (k : KeyName) (o : ObjectValue) (f : FindingValue) → content_of_entries es k ≡ Some o
      → Contains (pieces (k, o)) f → Contains (flat_map pieces es ++ flat_map declared counts) f
  found_in k o f at h = Contains-append_left (flat_map pieces es) (flat_map declared counts)
      f (in_pieces pieces es (k, o) f (Contains-from_lookup one_key k o es at) h)

  pub to_findings : (f : FindingValue) → Contains (flat_map pieces es ++ flat_map declared counts) f
      → IsFinding (content_of_entries es) w counts f
  to_findings f h = elim (Contains-append_cases (flat_map pieces es) (flat_map declared counts) f h) [
    | inl a ↦
        let r = from_pieces pieces es f a in
        object_found r.0.0 r.0.1 f (lookup-from_Contains keys_alike r.0.0 r.0.1 es apart r.1) r.2
    | inr b ↦ inr (inl (counts_found es counts f apart b))
  ]

  pub from_findings : (f : FindingValue) → IsFinding (content_of_entries es) w counts f
      → Contains (flat_map pieces es ++ flat_map declared counts) f
  from_findings f (inl (l, (o, at, link), absent, is)) =
      found_in l.from o f at (Contains-append_left (link_findings (is_present es) (links_of l.from o))
      _ f (found_links es l.from o l f link absent is))
  from_findings f (inr (inl m)) = Contains-append_right (flat_map pieces es)
      (flat_map declared counts) f (found_counts es counts f apart m)
  from_findings f (inr (inr (k, o, at, own))) =
      found_in k o f at (Contains-append_right (link_findings (is_present es) (links_of k o))
      _ f ((own_found w k o f).1 own))

-- what was gathered, as a set
pub verified : (es : List Entry) (w at : ℤ) (shown : List ℕ) (counts : List (Kind × ℕ))
    (before objects found v : List FindingValue) → IsStrictlySortedBy key_cmp (keys_of es)
    → at ≡ w → shown ≡ printed w
    → before ≡ [] → objects ≡ before ++ flat_map (object_findings (is_present es) at shown) es
    → found ≡ objects ++ flat_map (count_findings (keys_of es)) counts
    → ((f : FindingValue) → Contains v f ↔ Contains found f)
    → (f : FindingValue) → Contains v f ↔ IsFinding (content_of_entries es) w counts f
verified es w at shown counts before objects found v sorted moment text none of_objects all same f =
    let apart = IsDistinct-from_sorted key_cmp (keys_of es) sorted in
    let objects_are : objects ≡ flat_map (object_findings (is_present es) w (printed w)) es = of_objects
    ∙ (λ i. none i ++ flat_map (object_findings (is_present es) (moment i) (text i)) es) in
    let gathered : found ≡ flat_map (object_findings (is_present es) w (printed w)) es
    ++ flat_map (count_findings (keys_of es)) counts =
    all ∙ ap (λ (l : List FindingValue). l ++ flat_map (count_findings (keys_of es)) counts) objects_are in (
      λ h. to_findings es w counts apart f (subst (λ (l : List FindingValue). Contains l f) gathered ((same f).0 h)),
      λ h. (same f).1 (subst (λ (l : List FindingValue). Contains l f)
          (sym gathered) (from_findings es w counts apart f h)),
    )
