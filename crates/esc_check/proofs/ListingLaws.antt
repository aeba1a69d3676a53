-- No two findings differ in nothing but what else they report, so they are in strict order.
use Rattle.std.proofs.Common.{◌≡◌, inl, inr, ℕ, ℤ, ◌+◌, cond, List, [], ◌∷◌, get_or, Option, Some}
use Rattle.std.proofs.Common.{refl, sym, ap, subst, ◌∙◌, arith}
use Rattle.std.specs.Prelude.{◌↔◌, ◌==◌}
use Rattle.std.specs.Cmp.Lexicographic.{slice_cmp}
use Rattle.std.specs.Fmt.{decimal}
use Rattle.std.specs.List.{Contains, IsDistinct}
use Rattle.std.specs.List.Sorted.{IsStrictlySortedBy}
use Rattle.std.specs.Map.{keys_of}
use Rattle.std.specs.Option.{option_map_or}
use Rattle.std.specs.Ordering.{nat_cmp, ordering_then}
use Rattle.std.specs.Str.{bytes_eq}
use Rattle.std.specs.declared.cmp.Ordering.{Ordering}
use Rattle.std.specs.declared.cmp.Ordering.TheVariants.{Less, Equal, Greater}
use Rattle.std.proofs.lemmas.Cmp.{nat_list_cmp_total, tied_itself}
use Rattle.std.proofs.lemmas.Map.Keys.{IsDistinct-from_sorted, Less-from_sorted, sorted_from_all_adjacent}
use Rattle.std.proofs.lemmas.List.Elements.{Contains-get_or}
use Rattle.std.proofs.lemmas.Map.Lookups.{exact_unsigned, exact_bytes}
use Rattle.esc_envelope.specs.declared.kind.Kind.{Kind}
use Rattle.esc_envelope.specs.declared.kind.Kind.TheVariants.{Registrar, Contact, Host, Idn}
use Rattle.esc_envelope.specs.Kinds.{kind_name, kind_rank}
use Rattle.esc_envelope.specs.Watermark.{printed}
use Rattle.esc_tables.specs.KeyName.{KeyName, key_cmp, key_eq}
use Rattle.esc_tables.specs.ObjectValue.{ObjectValue}
use Rattle.esc_apply.specs.ObjectStreams.{Entry}
use Rattle.esc_check.specs.declared.field.LinkField.{LinkField}
use Rattle.esc_check.specs.declared.field.LinkField.TheVariants.{ClId, Registrant, IdnTableId, ContactId, HostName}
use Rattle.esc_check.specs.Fields.{field_name, field_target, created}
use Rattle.esc_check.specs.FindingValue.{FindingValue, finding_cmp, listing_cmp}
use Rattle.esc_check.specs.Findings.{IsFinding, IsOwn}
use Rattle.esc_check.specs.Gathered.{count_of_kind}
use Rattle.esc_check.specs.LinkValue.{LinkValue}
use Rattle.esc_check.specs.Links.{IsLinkOf}
use Rattle.esc_check.specs.TableMap.{content_of_entries}
use Rattle.esc_check.proofs.Keys.{count_is}
use Rattle.esc_check.proofs.ListedLaws.{listing_total}
use Rattle.esc_envelope.specs.KindLaws.{one_kind}

-- orders

step : (a s f : Ordering)
    → ordering_then a s ≡ Less → (a ≡ Equal → s ≡ Less → f ≡ Less) → ordering_then a f ≡ Less
step Less s f less further = refl
step Equal s f less further = further refl less
step Greater s f less further = absurd cc

last : (a s : Ordering) → ordering_then a s ≡ Less → (a ≡ Equal → s ≡ Less → ⊥) → a ≡ Less
last Less s less never = refl
last Equal s less never = absurd (never refl less)
last Greater s less never = absurd cc

not_below : (xs ys : List ℕ) → xs ≡ ys → slice_cmp nat_cmp xs ys ≡ Less → ⊥
not_below xs ys same less = let apart : Equal ≡ Less = sym (subst (λ (zs : List ℕ). slice_cmp
    nat_cmp xs zs ≡ Equal) same (tied_itself nat_list_cmp_total xs)) ∙ less in cc

-- below by six orders in turn, and not by the sixth alone: below by five
below_by_five : (a b c d e f : Ordering)
    → ordering_then a (ordering_then b (ordering_then c (ordering_then d (ordering_then e f)))) ≡ Less
    → (a ≡ Equal → b ≡ Equal → c ≡ Equal → d ≡ Equal → f ≡ Less → ⊥)
    → ordering_then a (ordering_then b (ordering_then c (ordering_then d e))) ≡ Less
below_by_five a b c d e f less never =
    step a (ordering_then b (ordering_then c (ordering_then d (ordering_then e f))))
    (ordering_then b (ordering_then c (ordering_then d e))) less (λ one less_b.
    step b (ordering_then c (ordering_then d (ordering_then e f)))
    (ordering_then c (ordering_then d e)) less_b (λ two less_c.
    step c (ordering_then d (ordering_then e f)) (ordering_then d e) less_c (λ three less_d.
    step d (ordering_then e f)
    e less_d (λ four less_e. last e f less_e (λ five below. never one two three four below)))))

in_listing : (f g : FindingValue) → (f.code ≡ g.code → f.kind ≡ g.kind → f.key ≡ g.key
    → f.field ≡ g.field → f.other ≡ g.other) → finding_cmp f g ≡ Less → listing_cmp f g ≡ Less
in_listing f g tell less =
    below_by_five (nat_cmp f.code g.code) (nat_cmp (kind_rank f.kind) (kind_rank g.kind))
    (slice_cmp nat_cmp f.key g.key) (slice_cmp nat_cmp f.field g.field)
    (slice_cmp nat_cmp f.value g.value)
    (slice_cmp nat_cmp f.other g.other) less (λ codes_tie kinds_tie keys_tie fields_tie below.
    not_below f.other g.other
    (tell (exact_unsigned f.code g.code codes_tie)
    (one_kind f.kind g.kind (exact_unsigned (kind_rank f.kind) (kind_rank g.kind) kinds_tie))
    (exact_bytes f.key g.key keys_tie) (exact_bytes f.field g.field fields_tie))
    below)

listed : (fs : List FindingValue) → ((f g : FindingValue) → Contains fs f → Contains fs g
    → finding_cmp f g ≡ Less → listing_cmp f g ≡ Less) → IsStrictlySortedBy finding_cmp fs
    → IsStrictlySortedBy listing_cmp fs
unfolding IsStrictlySortedBy
listed [] each h = tt
listed (f ∷ fs) each h = sorted_from_all_adjacent listing_total (f ∷ fs) f (λ k below.
    each (get_or (f ∷ fs) k f) (get_or (f ∷ fs) (k + 1) f)
    (Contains-get_or (f ∷ fs) k f (omega arith)) (Contains-get_or (f ∷ fs) (k + 1) f below)
    (Less-from_sorted finding_cmp (f ∷ fs) k (k + 1) f h (omega arith) below))

-- what else a finding reports follows from its code, kind, key and field

abbrev target_name : List ℕ → List ℕ
target_name name =
    cond (bytes_eq name (field_name ClId)) (kind_name Registrar)
    (cond (bytes_eq name (field_name Registrant)) (kind_name Contact)
    (cond (bytes_eq name (field_name IdnTableId)) (kind_name Idn)
    (cond (bytes_eq name (field_name ContactId)) (kind_name Contact) (kind_name Host))))

target_is : (g : LinkField) → target_name (field_name g) ≡ kind_name (field_target g)
unfolding field_name
target_is ClId = refl
target_is Registrant = refl
target_is IdnTableId = refl
target_is ContactId = refl
target_is HostName = refl

abbrev key_of : FindingValue → KeyName
key_of f = record { kind = f.kind; text = f.key }

abbrev tells : List Entry → ℤ → FindingValue → List ℕ
tells es w f =
    cond (f.code == 1) (target_name f.field)
    (cond (f.code == 2) (decimal (count_of_kind (keys_of es) f.kind))
    (cond (f.code == 5) (printed w)
    (cond (f.code == 6)
    (option_map_or (created (key_of f)) (content_of_entries es (key_of f)) []) [])))

leads_to : (k : KeyName) (o : ObjectValue) (l : LinkValue) → IsLinkOf k o l → l.to.kind ≡ field_target l.field
leads_to k o l (inl (g, has, by)) = subst (λ (m : LinkValue). m.to.kind ≡ field_target m.field) (sym by.1) refl
leads_to k o l (inr (r, g, has, table, by)) =
    subst (λ (m : LinkValue). m.to.kind ≡ field_target m.field) (sym by.1) refl

module _ (es : List Entry) (w : ℤ) where
  abbrev Tells : FindingValue → Type 0
  Tells f = f.other ≡ tells es w f

  own_told : (k : KeyName) (o : ObjectValue) (f : FindingValue)
      → content_of_entries es k ≡ Some o → IsOwn w k o f → Tells f
  own_told k o f at (inl (inl (s, has, other, is))) = subst Tells (sym is) refl
  own_told k o f at (inl (inr (domain, ok, more, is))) = subst Tells (sym is) refl
  own_told k o f at (inr (inl (inl (d, creation, past, is)))) = subst Tells (sym is) refl
  own_told k o f at (inr (inl (inr (e, d, expiry, creation, sooner, is)))) =
      subst Tells (sym is) (sym (ap (λ (x : Option ObjectValue). option_map_or (created k) x []) at))
  own_told k o f at (inr (inr (inl (some, none, is)))) = subst Tells (sym is) refl
  own_told k o f at (inr (inr (inr (some, none, is)))) = subst Tells (sym is) refl

  told : (counts : List (Kind × ℕ)) → IsDistinct key_eq (keys_of es)
      → (f : FindingValue) → IsFinding (content_of_entries es) w counts f → Tells f
  told counts apart f (inl (l, (o, at, link), absent, is)) =
      subst Tells (sym is) (ap kind_name (leads_to l.from o l link) ∙ sym (target_is l.field))
  told counts apart f (inr (inl (kind, declared, n, has, many, other, is))) =
      subst Tells (sym is) (ap decimal (count_is es kind n apart many))
  told counts apart f (inr (inr (k, o, at, own))) = own_told k o f at own

  same_told : (f g : FindingValue) → Tells f → Tells g
      → f.code ≡ g.code → f.kind ≡ g.kind → f.key ≡ g.key → f.field ≡ g.field → f.other ≡ g.other
  same_told f g one other codes_are kinds_are keys_are fields_are =
      one ∙ (λ i. tells es w (record {
        code = codes_are i;
        kind = kinds_are i;
        key = keys_are i;
        field = fields_are i;
        value = f.value;
        other = f.other;
      })) ∙ sym other

-- findings in strict order are listed in strict order
pub in_order : (es : List Entry) (w : ℤ) (counts : List (Kind × ℕ)) (v : List FindingValue)
    → IsStrictlySortedBy key_cmp (keys_of es)
    → ((f : FindingValue) → Contains v f ↔ IsFinding (content_of_entries es) w counts f)
    → IsStrictlySortedBy finding_cmp v → IsStrictlySortedBy listing_cmp v
in_order es w counts v sorted each strict =
    let apart = IsDistinct-from_sorted key_cmp (keys_of es) sorted in
    listed v (λ f g has too. in_listing f g (same_told es w f g
    (told es w counts apart f ((each f).0 has)) (told es w counts apart g ((each g).0 too)))) strict
