-- The envelope of a deposit, as a value (this project's profile).
use Rattle.std.specs.Prelude.{ℕ, List, Bool}
use Rattle.esc_envelope.specs.declared.kind.Kind.{Kind}
use Rattle.esc_envelope.specs.HeaderValue.{HeaderValue}

-- a table that the deposit declares: its name, the kind of its objects, whether it is a parent
-- table, the index of the key among the fields, the names of the fields in order, and the name of
-- the section that has its rows
pub record TableValue : Type 0 where
  pub name : List ℕ
  pub kind : Kind
  pub parent : Bool
  pub key : ℕ
  pub fields : List (List ℕ)
  pub file : List ℕ

-- header, the declared numbers of objects in the order of kinds, and the tables of contents and of
-- deletes
pub record EnvelopeValue : Type 0 where
  pub header : HeaderValue
  pub counts : List (Kind × ℕ)
  pub contents : List TableValue
  pub deletes : List TableValue
