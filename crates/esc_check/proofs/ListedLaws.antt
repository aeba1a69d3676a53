-- Findings in order, of which those that differ only in what else they report are listed once.
use Rattle.std.proofs.Common.{◌≡◌, ◌+◌, false, List, [], ◌∷◌, get_or, refl, sym, ap, ◌∙◌, arith}
use Rattle.std.specs.Cmp.{IsTotalOrder, nat_cmp_total}
use Rattle.std.specs.Cmp.Lexicographic.{slice_cmp}
use Rattle.std.specs.List.{dedup, dedup_from}
use Rattle.std.specs.List.Sorted.{IsSorted, IsStrictlySortedBy}
use Rattle.std.specs.Ordering.{nat_cmp, ordering_then, ordering_reverse, is_lt, is_eq, eq_by_cmp}
use Rattle.std.specs.declared.cmp.Ordering.{Ordering}
use Rattle.std.specs.declared.cmp.Ordering.TheVariants.{Less, Equal, Greater}
use Rattle.std.proofs.lemmas.Cmp.{then_total, on_total, nat_list_cmp_total}
use Rattle.std.proofs.lemmas.Map.Keys.{Less-from_sorted}
use Rattle.esc_envelope.specs.Kinds.{kind_rank}
use Rattle.esc_check.specs.FindingValue.{FindingValue, finding_cmp, listing_cmp}

-- the order of the listing is total
pub listing_total : IsTotalOrder listing_cmp
listing_total =
    then_total (on_total (λ (f : FindingValue). f.code) nat_cmp_total)
    (then_total (on_total (λ (f : FindingValue). kind_rank f.kind) nat_cmp_total)
    (then_total (on_total (λ (f : FindingValue). f.key) nat_list_cmp_total)
    (then_total (on_total (λ (f : FindingValue). f.field) nat_list_cmp_total)
    (on_total (λ (f : FindingValue). f.value) nat_list_cmp_total))))

regrouped : (a b c : Ordering) → ordering_then a (ordering_then b c) ≡ ordering_then (ordering_then a b) c
regrouped Less b c = refl
regrouped Equal b c = refl
regrouped Greater b c = refl

-- five orders, and then the sixth
fivefold : (a b c d e f : Ordering)
    → ordering_then a (ordering_then b (ordering_then c (ordering_then d (ordering_then e f))))
    ≡ ordering_then (ordering_then a (ordering_then b (ordering_then c (ordering_then d e)))) f
fivefold a b c d e f =
    let fourth = regrouped d e f in
    let third = ap (ordering_then c) fourth ∙ regrouped c (ordering_then d e) f in
    let second = ap (ordering_then b) third ∙ regrouped b (ordering_then c (ordering_then d e)) f in
    ap (ordering_then a) second ∙ regrouped a (ordering_then b (ordering_then c (ordering_then d e))) f

not_above : (a f : Ordering) → ordering_then a f ≡ Less → is_lt (ordering_reverse a) ≡ false
not_above Less f h = refl
not_above Equal f h = refl
not_above Greater f h = absurd cc

not_before : (f g : FindingValue) → finding_cmp f g ≡ Less → is_lt (listing_cmp g f) ≡ false
not_before f g less =
    let five = fivefold (nat_cmp f.code g.code) (nat_cmp (kind_rank f.kind) (kind_rank g.kind))
    (slice_cmp nat_cmp f.key g.key) (slice_cmp nat_cmp f.field g.field)
    (slice_cmp nat_cmp f.value g.value) (slice_cmp nat_cmp f.other g.other) in
    ap is_lt (listing_total.antisymm g f)
    ∙ not_above (listing_cmp f g) (slice_cmp nat_cmp f.other g.other) (sym five ∙ less)

-- findings in order are sorted for the listing
pub listing_sorted : (fs : List FindingValue) → IsStrictlySortedBy finding_cmp fs → IsSorted listing_cmp fs
listing_sorted fs strict = λ k d low high. not_before (get_or fs k d)
    (get_or fs (k + 1) d) (Less-from_sorted finding_cmp fs k (k + 1) d strict (omega arith) high)

none_alike : (f : FindingValue) (fs : List FindingValue)
    → IsStrictlySortedBy listing_cmp (f ∷ fs) → dedup_from (eq_by_cmp listing_cmp) f fs ≡ f ∷ fs
unfolding IsStrictlySortedBy
none_alike f [] h = refl
none_alike f (g ∷ gs) h =
    let apart : eq_by_cmp listing_cmp g f ≡ false =
    ap is_eq (listing_total.antisymm g f ∙ ap ordering_reverse h.0.0) in
    rw apart (ap (λ (l : List FindingValue). f ∷ l) (none_alike g gs h.1))

-- findings that are listed in strict order stay
pub dedup_none : (fs : List FindingValue)
    → IsStrictlySortedBy listing_cmp fs → dedup (eq_by_cmp listing_cmp) fs ≡ fs
dedup_none [] h = refl
dedup_none (f ∷ fs) h = none_alike f fs h
