-- The order of DS.
use borrow.Author.Tests.{eqb-true}
use Rattle.std.proofs.Common.{◌≡◌, true, Bool}
use Rattle.std.specs.Prelude.{◌==◌, ◌&&◌, nat_eq}
use Rattle.std.specs.Ordering.{eq_by_cmp}
use Rattle.std.specs.Cmp.{IsTotalOrder, IsEquivalence, then_total, on_total, nat_cmp_total, and_equiv, on_equiv}
use Rattle.std.specs.Cmp.{nat_eq_equiv, both_tied, unsigned_ties}
use Rattle.std.specs.Cmp.Lexicographic.{pointwise, nat_list_cmp_total, nat_list_eq_equiv, texts_ties}
use Rattle.std.proofs.lemmas.Bool.{and_parts}
use Rattle.esc_zone.specs.Signers.{DsValue, ds_cmp}
use Rattle.esc_zone.proofs.InOrder.{one_text}

-- whether two DS say the same
abbrev pub ds_eq : DsValue → DsValue → Bool
ds_eq a b = (a.tag == b.tag)
    && ((a.algorithm == b.algorithm) && ((a.kind == b.kind) && pointwise nat_eq a.digest b.digest))

-- it is a total order
pub ds_total : IsTotalOrder ds_cmp
ds_total = then_total (on_total (λ (d : DsValue). d.tag) nat_cmp_total)
    (then_total (on_total (λ (d : DsValue). d.algorithm) nat_cmp_total)
    (then_total (on_total (λ (d : DsValue). d.kind) nat_cmp_total)
    (on_total (λ (d : DsValue). d.digest) nat_list_cmp_total)))

-- to say the same is an equivalence
pub ds_equiv : IsEquivalence ds_eq
ds_equiv = and_equiv (on_equiv (λ (d : DsValue). d.tag) nat_eq_equiv)
    (and_equiv (on_equiv (λ (d : DsValue). d.algorithm) nat_eq_equiv)
    (and_equiv (on_equiv (λ (d : DsValue). d.kind) nat_eq_equiv)
    (on_equiv (λ (d : DsValue). d.digest) nat_list_eq_equiv)))

-- the order ties what says the same
pub ds_ties : (a b : DsValue) → ds_eq a b ≡ eq_by_cmp ds_cmp a b
ds_ties a b = both_tied _ _ _ _ (unsigned_ties a.tag b.tag)
    (both_tied _ _ _ _ (unsigned_ties a.algorithm b.algorithm)
    (both_tied _ _ _ _ (unsigned_ties a.kind b.kind) (texts_ties a.digest b.digest)))

-- what says the same is one
pub ds_one : (a b : DsValue) → ds_eq a b ≡ true → a ≡ b
ds_one a b h =
    let p = and_parts _ _ h in
    let q = and_parts _ _ p.1 in
    let r = and_parts _ _ q.1 in
    let tags = eqb-true a.tag b.tag p.0 in
    let algorithms = eqb-true a.algorithm b.algorithm q.0 in
    let kinds = eqb-true a.kind b.kind r.0 in
    let digests = one_text a.digest b.digest r.1 in
    λ i. record { tag = tags i; algorithm = algorithms i; kind = kinds i; digest = digests i }
