-- Laws of keys: their order is total, and keys that compare equal are equal.
use Rattle.std.proofs.Common.{◌≡◌, ℕ, true, List, ap}
use Rattle.std.specs.Ordering.{nat_cmp}
use Rattle.std.specs.Cmp.{IsTotalOrder, IsEquivalence, nat_cmp_total, eq_by_cmp_equiv, on_total}
use Rattle.std.specs.Cmp.{Equal-is}
use Rattle.std.specs.Cmp.Lexicographic.{slice_cmp, nat_list_cmp_total}
use Rattle.std.proofs.lemmas.Cmp.{then_total}
use Rattle.std.proofs.lemmas.Map.Lookups.{CmpEqualImpliesEq, exact_unsigned, exact_bytes}
use Rattle.std.proofs.lemmas.Map.Lookups.{exact_pairs}
use Rattle.esc_envelope.specs.Kinds.{kind_rank}
pub use Rattle.esc_envelope.specs.KindLaws.{one_kind}
use Rattle.esc_tables.specs.KeyName.{KeyName, key_cmp, key_eq}

-- the order of keys is total
pub keys_total : IsTotalOrder key_cmp
keys_total = then_total (on_total (λ k. kind_rank k.kind) nat_cmp_total)
    (on_total (λ k. k.text) nat_list_cmp_total)

-- the equality test of keys is an equivalence
pub keys_alike : IsEquivalence key_eq
keys_alike = eq_by_cmp_equiv keys_total

-- keys that compare equal are equal
pub keys_exact : CmpEqualImpliesEq key_cmp
keys_exact a b h =
    let parts = exact_pairs nat_cmp (slice_cmp nat_cmp) exact_unsigned exact_bytes
    (kind_rank a.kind, a.text) (kind_rank b.kind, b.text) h in
    let kinds : a.kind ≡ b.kind = one_kind a.kind b.kind (ap (λ (p : ℕ × List ℕ). p.0) parts) in
    let texts : a.text ≡ b.text = ap (λ (p : ℕ × List ℕ). p.1) parts in
    λ i. record { kind = kinds i; text = texts i }

-- keys that pass the equality test are equal
pub one_key : (a b : KeyName) → key_eq a b ≡ true → a ≡ b
one_key a b h = keys_exact a b ((Equal-is (key_cmp a b)).0 h)

-- a key equals itself
pub key_itself : (k : KeyName) → key_eq k k ≡ true
key_itself k = keys_alike.refl k
