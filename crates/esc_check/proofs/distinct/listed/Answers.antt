use Rattle.std.proofs.Common.{List, sym, subst, refl, ◌∙◌, rules}
use Rattle.std.specs.List.Sorted.{IsStrictlySortedBy}
use Rattle.std.specs.Ordering.{eq_by_cmp}
use Rattle.std.proofs.lemmas.Fn.{dedup_same}
use Rattle.std.proofs.lemmas.List.Kept.{IsStrictlySortedBy-dedup}
use Rattle.esc_check.specs.FindingValue.{FindingValue, listing_cmp}
use Rattle.esc_check.proofs.ListedLaws.{listing_total, listing_sorted, dedup_none}
use Rattle.esc_check.proofs.distinct.listed.Goals as goal

pub returns-clause-ordered : goal.returns-clause-ordered
returns-clause-ordered c =
    let left = dedup_same _ (eq_by_cmp listing_cmp)
    _ (λ x y b f x' y' k. search rules) _ _ c.dedup_by.ensures.filtered in
    subst (λ (l : List FindingValue). IsStrictlySortedBy listing_cmp l) (sym left)
    (IsStrictlySortedBy-dedup listing_total (λ x y. refl) _ (listing_sorted _ c.requires))

pub returns-clause-same : goal.returns-clause-same
returns-clause-same c = λ strict.
    let left = dedup_same _ (eq_by_cmp listing_cmp)
    _ (λ x y b f x' y' k. search rules) _ _ c.dedup_by.ensures.filtered in
    left ∙ dedup_none _ strict
