-- Laws of places: types with equal ranks are equal, and so are places with equal parts.
use Rattle.std.proofs.Common.{◌≡◌, ◌∙◌, ℕ, zero, suc, refl, sym, ap}
use Rattle.esc_envelope.specs.declared.place.DepositType.{DepositType}
use Rattle.esc_envelope.specs.declared.place.DepositType.TheVariants.{Diff, Incr, Full}
use Rattle.esc_envelope.specs.declared.place.Place.{Place}
use Rattle.esc_envelope.specs.Place.{rank}

-- the type of a rank
abbrev type_at : ℕ → DepositType
type_at zero = Diff
type_at (suc zero) = Incr
type_at (suc (suc n)) = Full

type_back : (k : DepositType) → type_at (rank k) ≡ k
type_back Diff = refl
type_back Incr = refl
type_back Full = refl

-- types with equal ranks are equal
pub one_type : (a b : DepositType) → rank a ≡ rank b → a ≡ b
one_type a b e = sym (type_back a) ∙ ap type_at e ∙ type_back b

-- places with equal watermarks and types are equal
pub one_place : (a b : Place) → a.watermark ≡ b.watermark → a.kind ≡ b.kind → a ≡ b
one_place a b w k i = record { watermark = w i; kind = k i }
