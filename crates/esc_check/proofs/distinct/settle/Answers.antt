use Rattle.std.proofs.Common.{List, sym, subst, refl}
use Rattle.std.specs.List.{Contains}
use Rattle.std.specs.List.Sorted.{IsStrictlySortedBy}
use Rattle.std.proofs.lemmas.List.Filters.{dedup_is}
use Rattle.std.proofs.lemmas.List.Kept.{IsStrictlySortedBy-dedup, Contains-dedup, Contains-from_dedup}
use Rattle.std.proofs.lemmas.List.Sorted.{IsPermutation-sym, Contains-permutation}
use Rattle.esc_check.specs.FindingValue.{FindingValue, finding_cmp, finding_eq}
use Rattle.esc_check.specs.FindingOrder.{finding_total, finding_equiv}
use Rattle.esc_check.proofs.Ties.{exact_finding_eq}
use Rattle.esc_check.proofs.distinct.settle.Goals as goal

pub returns-clause-ordered : goal.returns-clause-ordered
returns-clause-ordered c =
    subst (λ (l : List FindingValue). IsStrictlySortedBy finding_cmp l)
    (sym (dedup_is finding_eq _ _ c.dedup.ensures.filtered))
    (IsStrictlySortedBy-dedup finding_total (λ x y. refl) _ c.sort_unstable.ensures.sorted)

pub returns-clause-same : goal.returns-clause-same
returns-clause-same c = λ f.
    let left = dedup_is finding_eq _ _ c.dedup.ensures.filtered in
    let moved = c.sort_unstable.ensures.permutation in (
      λ h. Contains-permutation _ _ f (IsPermutation-sym _ _ moved)
          (Contains-from_dedup finding_eq _ f (subst (λ (l : List FindingValue). Contains l f) left h)),
      λ h. subst (λ (l : List FindingValue). Contains l f) (sym left)
          (Contains-dedup finding_equiv exact_finding_eq _ f (Contains-permutation _ _ f moved h)),
    )
