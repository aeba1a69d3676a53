-- Keys as values, and their order.
use Rattle.std.specs.Prelude.{ℕ, Bool, List}
use Rattle.std.specs.declared.cmp.Ordering.{Ordering}
use Rattle.std.specs.Ordering.{nat_cmp, on, then_cmp, eq_by_cmp}
use Rattle.std.specs.Cmp.Lexicographic.{slice_cmp}
use Rattle.esc_envelope.specs.declared.kind.Kind.{Kind}
use Rattle.esc_envelope.specs.Kinds.{kind_rank}

-- a kind and the bytes of a text
pub record KeyName : Type 0 where
  pub kind : Kind
  pub text : List ℕ

-- the order of keys: by kind, and then by bytes
abbrev pub key_cmp : KeyName → KeyName → Ordering
key_cmp = then_cmp (on (λ k. kind_rank k.kind) nat_cmp) (on (λ k. k.text) (slice_cmp nat_cmp))

-- two keys are equal
abbrev pub key_eq : KeyName → KeyName → Bool
key_eq = eq_by_cmp key_cmp
