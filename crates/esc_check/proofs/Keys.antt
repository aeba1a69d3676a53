-- Keys that tie are one key, and how many of a list are of a kind.
use Rattle.std.proofs.Common.{◌≡◌, ℕ, Bool, true, false, List, length, filter, sym, ap, subst, ◌∙◌}
use Rattle.std.specs.Prelude.{◌↔◌, IsSome}
use Rattle.std.specs.Bool.{one_answer}
use Rattle.std.proofs.lemmas.Bool.{eqb-true, eq-eqb}
use Rattle.std.proofs.lemmas.List.{map-id}
use Rattle.std.proofs.lemmas.List.Sums.{length-filter}
use Rattle.std.proofs.lemmas.List.Kept.{AllPairs-filter}
use Rattle.std.proofs.lemmas.Map.Keys.{apart_from_distinct, IsDistinct-from_apart}
use Rattle.std.proofs.lemmas.Map.Made.{is_member-Decides, length-from_same_keys}
use Rattle.std.proofs.lemmas.Map.Views.{IsSome-lookup_from_Contains, Contains-keys_from_lookup}
use Rattle.std.specs.List.{Contains, IsDistinct}
use Rattle.std.specs.Map.{keys_of}
use Rattle.esc_envelope.specs.declared.kind.Kind.{Kind}
use Rattle.esc_envelope.specs.Kinds.{kind_rank, is_kind}
use Rattle.esc_tables.specs.KeyLaws.{keys_alike, one_key}
use Rattle.esc_tables.specs.KeyName.{KeyName, key_eq}
use Rattle.esc_apply.specs.ObjectStreams.{Entry}
use Rattle.esc_check.specs.Gathered.{count_of_kind}
use Rattle.esc_check.specs.TableMap.{content_of_entries, AreKeysOfKind, HasCount}
use Rattle.esc_check.proofs.Members.{from_chosen, in_chosen}
use Rattle.esc_envelope.specs.KindLaws.{one_kind}

key_decides : (a b : KeyName) → (key_eq a b ≡ true → a ≡ b) × (a ≡ b → key_eq a b ≡ true)
key_decides a b = (one_key a b, λ e. subst (λ (q : KeyName). key_eq a q ≡ true) e (keys_alike.refl a))

same_kind : (k l : Kind) → is_kind k l ≡ true → k ≡ l
same_kind k l h = one_kind k l (eqb-true (kind_rank k) (kind_rank l) h)

kind_itself : (k l : Kind) → k ≡ l → is_kind k l ≡ true
kind_itself k l e = eq-eqb (kind_rank k) (kind_rank l) (ap kind_rank e)

-- what is kept of distinct keys is distinct

distinct_kept : (p : KeyName → Bool) (xs : List KeyName) → IsDistinct key_eq xs → IsDistinct key_eq (filter p xs)
distinct_kept p xs h =
    IsDistinct-from_apart key_eq (filter p xs) (AllPairs-filter (λ x y. key_eq x y ≡ false)
    p xs (λ i j d lt below. apart_from_distinct key_eq xs i j d h lt below))

-- the keys of a kind among those of entries

abbrev of_kind : Kind → List Entry → List KeyName
of_kind kind es = filter (λ q. is_kind q.kind kind) (keys_of es)

from_kind : (es : List Entry) (kind : Kind) (q : KeyName)
    → Contains (of_kind kind es) q → (q.kind ≡ kind) × IsSome (content_of_entries es q)
from_kind es kind q h =
    let r = from_chosen (λ (k : KeyName). is_kind k.kind kind) (λ (k : KeyName). k) (keys_of es)
    q (subst (λ (l : List KeyName). Contains l q) (sym (map-id (of_kind kind es))) h) in
    let has : Contains (keys_of es) q = subst (λ (k : KeyName). Contains (keys_of es) k) (sym r.3) r.1 in
    (ap (λ (k : KeyName). k.kind) r.3 ∙ same_kind r.0.kind kind r.2, IsSome-lookup_from_Contains keys_alike q es has)

in_kind : (es : List Entry) (kind : Kind) (q : KeyName)
    → (q.kind ≡ kind) × IsSome (content_of_entries es q) → Contains (of_kind kind es) q
in_kind es kind q (same, there) =
    let has = in_chosen (λ (k : KeyName). is_kind k.kind kind) (λ (k : KeyName). k)
    (keys_of es) q (Contains-keys_from_lookup one_key q es there) (kind_itself q.kind kind same) in
    subst (λ (l : List KeyName). Contains l q) (map-id (of_kind kind es)) has

are_keys : (es : List Entry) (kind : Kind)
    → IsDistinct key_eq (keys_of es) → AreKeysOfKind (content_of_entries es) kind (of_kind kind es)
are_keys es kind apart = record {
  once = distinct_kept (λ q. is_kind q.kind kind) (keys_of es) apart;
  each = λ q. (from_kind es kind q, in_kind es kind q);
}

count_kept : (es : List Entry) (kind : Kind)
    → length (of_kind kind es) ≡ count_of_kind (keys_of es) kind
count_kept es kind = length-filter (λ (q : KeyName). is_kind q.kind kind) (keys_of es)

-- as many are of a kind as are counted
pub count_has : (es : List Entry) (kind : Kind) → IsDistinct key_eq (keys_of es)
    → HasCount (content_of_entries es) kind (count_of_kind (keys_of es) kind)
count_has es kind apart = (of_kind kind es, are_keys es kind apart, count_kept es kind)

-- and no more
pub count_is : (es : List Entry) (kind : Kind) (n : ℕ) → IsDistinct key_eq (keys_of es)
    → HasCount (content_of_entries es) kind n → n ≡ count_of_kind (keys_of es) kind
count_is es kind n apart (keys, are, long) =
    let here = are_keys es kind apart in
    let alike : (q : KeyName) → Contains keys q ↔ Contains (of_kind kind es) q =
    λ q. (λ h. (here.each q).1 ((are.each q).0 h), λ h. (are.each q).1 ((here.each q).0 h)) in
    sym long
    ∙ length-from_same_keys keys_alike keys (of_kind kind es) are.once here.once (λ q.
    let one = is_member-Decides key_decides keys q in
    let other = is_member-Decides key_decides (of_kind kind es) q in
    one_answer _ _ one (λ h. (alike q).1 (other.0 h), λ h. other.1 ((alike q).0 h)))
    ∙ count_kept es kind
