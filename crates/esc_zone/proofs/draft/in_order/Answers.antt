use Rattle.std.proofs.Common.{ℕ, List, sym, subst, ap, ◌∙◌, map, string_bytes}
use Rattle.std.specs.Prelude.{String, nat_eq}
use Rattle.std.specs.declared.alloc.Global.{Global}
use Rattle.std.specs.List.{Contains}
use Rattle.std.specs.List.Sorted.{IsStrictlySortedBy}
use Rattle.std.specs.String.{string_cmp, string_eq, string_cmp_total}
use Rattle.std.specs.Cmp.Lexicographic.{pointwise, texts_ties}
use Rattle.std.proofs.lemmas.Cmp.{nat_list_eq_equiv}
use Rattle.std.proofs.lemmas.List.Filters.{dedup_is}
use Rattle.std.proofs.lemmas.List.Kept.{IsStrictlySortedBy-dedup, Contains-dedup, Contains-from_dedup}
use Rattle.std.proofs.lemmas.List.Sorted.{IsPermutation-sym, IsPermutation-map, Contains-permutation}
use Rattle.esc_zone.specs.Names.{name_cmp}
use Rattle.esc_zone.proofs.InOrder.{dedup_map, sorted_map, one_text}
use Rattle.esc_zone.proofs.draft.in_order.Goals as goal

pub returns : goal.returns
returns c =
    let Texts = λ (l : List (String Global)). map string_bytes l in
    let sorted = c.sort_unstable.new.self.items in
    let left = dedup_is string_eq _ _ c.dedup.ensures.filtered in
    let once = ap Texts left ∙ dedup_map string_bytes (pointwise nat_eq) sorted in
    let moved = IsPermutation-map string_bytes _ _ c.sort_unstable.ensures.permutation in
    record {
      order = sorted_map string_bytes name_cmp _
          (subst (λ (l : List (String Global)). IsStrictlySortedBy string_cmp l) (sym left)
          (IsStrictlySortedBy-dedup string_cmp_total (λ x y. texts_ties (string_bytes x) (string_bytes y)) _
          c.sort_unstable.ensures.sorted));
      same = λ t. (
        λ h. Contains-permutation _ _ t (IsPermutation-sym _ _ moved)
            (Contains-from_dedup (pointwise nat_eq) (Texts sorted) t
            (subst (λ (l : List (List ℕ)). Contains l t) once h)),
        λ h. subst (λ (l : List (List ℕ)). Contains l t) (sym once)
            (Contains-dedup nat_list_eq_equiv one_text (Texts sorted) t (Contains-permutation _ _ t moved h)),
      );
    }
