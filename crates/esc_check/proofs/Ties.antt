-- Findings that tie are one.
use Rattle.std.proofs.Common.{◌≡◌, ℕ, true, List, ap}
use Rattle.std.specs.Ordering.{nat_cmp}
use Rattle.std.specs.Cmp.{Equal-is}
use Rattle.std.specs.Cmp.Lexicographic.{slice_cmp}
use Rattle.std.proofs.lemmas.Map.Lookups.{CmpEqualImpliesEq, exact_unsigned, exact_bytes, exact_pairs}
use Rattle.esc_envelope.specs.Kinds.{kind_rank}
use Rattle.esc_check.specs.FindingValue.{FindingValue, finding_cmp, finding_eq}
use Rattle.esc_envelope.specs.KindLaws.{one_kind}

-- the texts of a finding
abbrev Texts : Type 0
Texts = List ℕ × (List ℕ × (List ℕ × List ℕ))

abbrev texts_of : FindingValue → Texts
texts_of f = (f.key, (f.field, (f.value, f.other)))

-- findings that tie are one
exact_findings : CmpEqualImpliesEq finding_cmp
exact_findings a b h =
    let bytes = exact_bytes in
    let texts = exact_pairs (slice_cmp nat_cmp) _ bytes (exact_pairs (slice_cmp nat_cmp)
    _ bytes (exact_pairs (slice_cmp nat_cmp) (slice_cmp nat_cmp) bytes bytes)) in
    let all = exact_pairs nat_cmp _ exact_unsigned (exact_pairs nat_cmp _ exact_unsigned texts)
    (a.code, (kind_rank a.kind, texts_of a)) (b.code, (kind_rank b.kind, texts_of b)) h in
    let kinds : a.kind ≡ b.kind = one_kind a.kind b.kind (ap (λ (p : ℕ × (ℕ × Texts)). p.1.0) all) in
    λ i. record {
      code = (all i).0;
      kind = kinds i;
      key = (all i).1.1.0;
      field = (all i).1.1.1.0;
      value = (all i).1.1.1.1.0;
      other = (all i).1.1.1.1.1;
    }

-- findings that are told to be equal are one
pub exact_finding_eq : (a b : FindingValue) → finding_eq a b ≡ true → a ≡ b
exact_finding_eq a b h = exact_findings a b ((Equal-is (finding_cmp a b)).0 h)
