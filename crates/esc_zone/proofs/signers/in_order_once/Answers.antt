use Rattle.std.proofs.Common.{◌∙◌, Bool, List, ap, map, subst, sym}
use Rattle.std.specs.List.{Contains}
use Rattle.std.specs.List.Sorted.{IsStrictlySortedBy}
use Rattle.std.specs.declared.cmp.Ordering.{Ordering}
use Rattle.std.specs.Cmp.{on_total}
use Rattle.std.proofs.lemmas.List.Filters.{dedup_is}
use Rattle.std.proofs.lemmas.List.Kept.{IsStrictlySortedBy-dedup, Contains-dedup, Contains-from_dedup}
use Rattle.std.proofs.lemmas.List.Sorted.{IsPermutation-sym, IsPermutation-map, Contains-permutation}
use Rattle.esc_zone.specs.declared.signer.Ds.{Ds}
use Rattle.esc_zone.specs.Signers.{DsValue, ds_value, ds_cmp}
use Rattle.esc_zone.proofs.InOrder.{dedup_map, sorted_map}
use Rattle.esc_zone.proofs.SignerOrder.{ds_eq, ds_total, ds_equiv, ds_ties, ds_one}
use Rattle.esc_zone.proofs.signers.in_order_once.Goals as goal

pub returns : goal.returns
returns c =
    let Values = λ (l : List Ds). map ds_value l in
    let R : Ds → Ds → Ordering = λ a b. ds_cmp (ds_value a) (ds_value b) in
    let E : Ds → Ds → Bool = λ a b. ds_eq (ds_value a) (ds_value b) in
    let sorted = c.sort_unstable.new.self.items in
    let left = dedup_is E _ _ c.dedup.ensures.filtered in
    let once = ap Values left ∙ dedup_map ds_value ds_eq sorted in
    let moved = IsPermutation-map ds_value _ _ c.sort_unstable.ensures.permutation in
    record {
      order = sorted_map ds_value ds_cmp _
          (subst (λ (l : List Ds). IsStrictlySortedBy R l) (sym left)
          (IsStrictlySortedBy-dedup (on_total ds_value ds_total) (λ x y. ds_ties (ds_value x) (ds_value y)) _
          c.sort_unstable.ensures.sorted));
      same = λ t. (
        λ h. Contains-permutation _ _ t (IsPermutation-sym _ _ moved)
            (Contains-from_dedup ds_eq (Values sorted) t (subst (λ (l : List DsValue). Contains l t) once h)),
        λ h. subst (λ (l : List DsValue). Contains l t) (sym once)
            (Contains-dedup ds_equiv ds_one (Values sorted) t (Contains-permutation _ _ t moved h)),
      );
    }
