-- Laws of the order of findings.
use Rattle.std.specs.Cmp.{IsTotalOrder, IsEquivalence, nat_cmp_total, eq_by_cmp_equiv}
use Rattle.std.proofs.lemmas.Cmp.{then_total, on_total, nat_list_cmp_total}
use Rattle.esc_envelope.specs.Kinds.{kind_rank}
use Rattle.esc_check.specs.FindingValue.{FindingValue, finding_cmp, finding_eq}

-- the order of findings is total
pub finding_total : IsTotalOrder finding_cmp
finding_total =
    then_total (on_total (λ (f : FindingValue). f.code) nat_cmp_total)
    (then_total (on_total (λ (f : FindingValue). kind_rank f.kind) nat_cmp_total)
    (then_total (on_total (λ (f : FindingValue). f.key) nat_list_cmp_total)
    (then_total (on_total (λ (f : FindingValue). f.field) nat_list_cmp_total)
    (then_total (on_total (λ (f : FindingValue). f.value) nat_list_cmp_total)
    (on_total (λ (f : FindingValue). f.other) nat_list_cmp_total)))))

-- the equality test of findings is an equivalence
pub finding_equiv : IsEquivalence finding_eq
finding_equiv = eq_by_cmp_equiv finding_total
