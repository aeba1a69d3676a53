-- Deposits as values (RFC 8909, section 2).
use Rattle.std.specs.Prelude.{ℕ, List}
use Rattle.esc_envelope.specs.declared.kind.Kind.{Kind}
use Rattle.esc_envelope.specs.HeaderValue.{HeaderValue}
use Rattle.esc_tables.specs.KeyName.{KeyName}
use Rattle.esc_tables.specs.ObjectValue.{ObjectValue}

-- counts and contents are the entries of maps, in the order of their keys
pub record DepositValue : Type 0 where
  pub header : HeaderValue
  pub counts : List (Kind × ℕ)
  pub deletes : List KeyName
  pub contents : List (KeyName × ObjectValue)
  pub orphans : ℕ
