-- Findings as values, and their order.
use Rattle.std.specs.Prelude.{ℕ, Bool, List}
use Rattle.std.specs.declared.cmp.Ordering.{Ordering}
use Rattle.std.specs.Ordering.{nat_cmp, on, then_cmp, eq_by_cmp}
use Rattle.std.specs.Cmp.Lexicographic.{slice_cmp}
use Rattle.esc_envelope.specs.declared.kind.Kind.{Kind}
use Rattle.esc_envelope.specs.Kinds.{kind_rank}

-- the number of the rule that is broken, the object's kind and key, the field and its value, and
-- what else is reported; texts are their bytes
pub record FindingValue : Type 0 where
  pub code : ℕ
  pub kind : Kind
  pub key : List ℕ
  pub field : List ℕ
  pub value : List ℕ
  pub other : List ℕ

-- the order in which findings are listed: by code, kind, key, field and value
abbrev pub listing_cmp : FindingValue → FindingValue → Ordering
listing_cmp =
    then_cmp (on (λ f. f.code) nat_cmp)
    (then_cmp (on (λ f. kind_rank f.kind) nat_cmp)
    (then_cmp (on (λ f. f.key) (slice_cmp nat_cmp))
    (then_cmp (on (λ f. f.field) (slice_cmp nat_cmp)) (on (λ f. f.value) (slice_cmp nat_cmp)))))

-- the same, and last by what else is reported, so that findings that compare equal are equal
abbrev pub finding_cmp : FindingValue → FindingValue → Ordering
finding_cmp =
    then_cmp (on (λ f. f.code) nat_cmp)
    (then_cmp (on (λ f. kind_rank f.kind) nat_cmp)
    (then_cmp (on (λ f. f.key) (slice_cmp nat_cmp))
    (then_cmp (on (λ f. f.field) (slice_cmp nat_cmp))
    (then_cmp (on (λ f. f.value) (slice_cmp nat_cmp)) (on (λ f. f.other) (slice_cmp nat_cmp))))))

-- two findings are equal
abbrev pub finding_eq : FindingValue → FindingValue → Bool
finding_eq = eq_by_cmp finding_cmp
