-- What a deposit says of itself, as a value (RFC 8909, section 5.1).
use Rattle.std.specs.Prelude.{ℕ, List, Option}
use Rattle.esc_envelope.specs.declared.place.Place.{Place}

-- id, place, the id of the deposit that it builds on, and how often it was generated again; texts
-- are their bytes
pub record HeaderValue : Type 0 where
  pub id : List ℕ
  pub place : Place
  pub prev : Option (List ℕ)
  pub resend : ℕ
