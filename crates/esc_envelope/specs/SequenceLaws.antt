-- Laws of steps: what each step gave, where all of them gave something.
use Rattle.std.specs.Prelude.{◌≡◌, Option, Some, None}
use Rattle.std.specs.Option.{is_some}
use Rattle.std.proofs.Common.{refl, ap}
use Rattle.std.proofs.lemmas.Bool.{false≢true}
use Rattle.esc_envelope.specs.Sequences.{◌>>=◌}

-- the first step gave `it`, and the next one gave y from that
pub record Bound {A B : Type 0} (o : Option A) (f : A → Option B) (y : B) : Type 0 where
  pub it : A
  pub was : o ≡ Some it
  pub goes : f it ≡ Some y

-- where two steps give a value, both gave one
pub bound : {A B : Type 0} (o : Option A) (f : A → Option B) (y : B) → (o >>= f) ≡ Some y
    → Bound o f y
bound None f y h = absurd (false≢true (ap is_some h))
bound (Some x) f y h = record { it = x; was = refl; goes = h }
