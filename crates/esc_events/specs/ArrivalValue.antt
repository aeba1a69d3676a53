-- Arrivals as values.
use Rattle.std.specs.Prelude.{ℕ, List}

-- a number and a body, as bytes
pub record ArrivalValue : Type 0 where
  pub number : List ℕ
  pub body : List ℕ

-- the arrival of a body under a number
abbrev pub an_arrival : List ℕ → List ℕ → ArrivalValue
an_arrival number body = record { number = number; body = body }
