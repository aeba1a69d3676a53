-- How many objects a walk gives, by the counts of kinds.
use Rattle.std.proofs.Common.{◌≡◌, ℕ, suc, ◌+◌, List, [], ◌∷◌, map}
use Rattle.std.proofs.Common.{length, sum_by, Some, refl, sym, ap, ap₂, ◌∙◌, arith}
use Rattle.std.specs.List.{AllByRecursion}
use Rattle.std.specs.Map.{keys_of, lookup}
use Rattle.std.specs.BTreeMap.{is_at}
use Rattle.std.specs.Option.{is_some}
use Rattle.std.proofs.lemmas.List.Elements.{recursion_from_All}
use Rattle.std.proofs.lemmas.Map.Entries.{length-keys_of}
use Rattle.std.proofs.lemmas.Map.Keys.{IsDistinct-from_sorted}
use Rattle.std.proofs.lemmas.Map.Made.{is_some-lookup, length-from_same_keys}
use Rattle.esc_envelope.specs.declared.kind.Kind.{Kind}
use Rattle.esc_envelope.specs.declared.kind.Kind.TheVariants.{Registrar, Contact, Host, Domain, Idn, Nndn}
use Rattle.esc_envelope.specs.contracts.kind.KindOrd.TheImpl as kind_ord
use Rattle.esc_envelope.specs.Kinds.{kind_rank}
use Rattle.esc_tables.specs.KeyLaws.{keys_alike}
use Rattle.esc_tables.specs.KeyName.{KeyName, key_cmp, key_eq}
use Rattle.esc_apply.specs.ObjectStreams.{Entry, InOrder}
use Rattle.esc_apply.specs.Registry.{HasSize, ObjectsByKey}
use Rattle.esc_store.specs.StoreState.{AreCounts, of_kind}
use Rattle.esc_desk.specs.Walking.{AreAllOf, of_kinds}
use Rattle.esc_desk.proofs.Walks.{kind_found, kinds_in_order}

-- how many of the entries are of a kind
abbrev count_for : List Entry → Kind → ℕ
count_for es kind = length (of_kinds (Some kind) es)

-- entries in order that have the look-ups of a content are as many as that has
sized : (f : ObjectsByKey) (n : ℕ) (es : List Entry)
    → HasSize f n → InOrder es → ((q : KeyName) → lookup (key_eq q) es ≡ f q) → n ≡ length es
sized f n es size order each =
    let fs = size.0 in
    let one = length-from_same_keys keys_alike (keys_of fs) (keys_of es) size.1.once
    (IsDistinct-from_sorted key_cmp (keys_of es) order)
    (λ q. sym (is_some-lookup (key_eq q) fs) ∙ ap is_some (size.1.each q ∙ sym (each q))
    ∙ is_some-lookup (key_eq q) es) in
    sym size.2 ∙ sym (length-keys_of fs) ∙ one ∙ length-keys_of es

module _ (content : ObjectsByKey) (es : List Entry) (all : AreAllOf content es) where
  -- a count of a kind is how many entries are of it
  kind_sized : (kind : Kind) (n : ℕ) → HasSize (of_kind kind content) n → n ≡ count_for es kind
  kind_sized kind n size = sized (of_kind kind content) n (of_kinds (Some kind) es) size
      (kinds_in_order (Some kind) es all.order) (kind_found content kind es all.each)

  counted : (counts : List (Kind × ℕ)) → AllByRecursion (λ (c : Kind × ℕ). HasSize (of_kind c.0 content) c.1) counts
      → counts ≡ map (λ k. (k, count_for es k)) (map (λ (c : Kind × ℕ). c.0) counts)
  counted [] are = refl
  counted (c ∷ counts) are =
      ap₂ (λ n cs. (c.0, n) ∷ cs) (kind_sized c.0 c.1 are.0) (counted counts are.1)

  -- the counts are how many entries are of each kind
  counts_are : (counts : List (Kind × ℕ)) → AreCounts content counts
      → counts ≡ (Registrar, count_for es Registrar) ∷ (Contact, count_for es Contact)
      ∷ (Host, count_for es Host) ∷ (Domain, count_for es Domain) ∷ (Idn, count_for es Idn)
      ∷ (Nndn, count_for es Nndn) ∷ []
  counts_are counts are =
      counted counts (recursion_from_All (λ (c : Kind × ℕ). HasSize (of_kind c.0 content) c.1) counts are.each)
      ∙ ap (map (λ k. (k, count_for es k))) are.kinds

  -- the count that is found for a kind is how many entries are of it
  pub count_there : (counts : List (Kind × ℕ)) (kind : Kind) → AreCounts content counts
      → lookup (is_at ((kind_ord.cmp-value).it kind)) counts ≡ Some (count_for es kind)
  count_there counts kind are = rw (counts_are counts are) (by_kind kind)
    where
      by_kind : (kind : Kind) → lookup (is_at ((kind_ord.cmp-value).it kind))
          ((Registrar, count_for es Registrar) ∷ (Contact, count_for es Contact)
          ∷ (Host, count_for es Host) ∷ (Domain, count_for es Domain) ∷ (Idn, count_for es Idn)
          ∷ (Nndn, count_for es Nndn) ∷ []) ≡ Some (count_for es kind)
      by_kind Registrar = refl
      by_kind Contact = refl
      by_kind Host = refl
      by_kind Domain = refl
      by_kind Idn = refl
      by_kind Nndn = refl

-- the kinds' counts together
abbrev together : List Entry → ℕ
together es = count_for es Registrar + count_for es Contact + count_for es Host + count_for es Domain
    + count_for es Idn + count_for es Nndn

-- each entry is of one kind
all_kinds : (es : List Entry) → together es ≡ length es
all_kinds [] = refl
all_kinds (e ∷ es) = by_kind e.0.kind refl (all_kinds es)
  where
    by_kind : (kind : Kind) → e.0.kind ≡ kind → together es ≡ length es → together (e ∷ es) ≡ suc (length es)
    by_kind Registrar is rest = rw is (omega (arith, rest))
    by_kind Contact is rest = rw is (omega (arith, rest))
    by_kind Host is rest = rw is (omega (arith, rest))
    by_kind Domain is rest = rw is (omega (arith, rest))
    by_kind Idn is rest = rw is (omega (arith, rest))
    by_kind Nndn is rest = rw is (omega (arith, rest))

-- the sum of six counts
sum_six : (a b c d e f : ℕ) → sum_by (λ (p : Kind × ℕ). p.1) ((Registrar, a) ∷ (Contact, b) ∷ (Host, c)
    ∷ (Domain, d) ∷ (Idn, e) ∷ (Nndn, f) ∷ []) ≡ a + b + c + d + e + f
sum_six a b c d e f = omega arith

-- the sum of the counts is how many entries there are
pub sum_is : (content : ObjectsByKey) (es : List Entry) (counts : List (Kind × ℕ)) → AreAllOf content es
    → AreCounts content counts → sum_by (λ (c : Kind × ℕ). c.1) counts ≡ length es
sum_is content es counts all are =
    ap (sum_by (λ (c : Kind × ℕ). c.1)) (counts_are content es all counts are)
    ∙ sum_six (count_for es Registrar) (count_for es Contact) (count_for es Host) (count_for es Domain)
    (count_for es Idn) (count_for es Nndn) ∙ all_kinds es
