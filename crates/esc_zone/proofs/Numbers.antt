-- The numbers that digits write.
use Rattle.std.proofs.Common.{ℕ, ◌^◌, ◌<◌, List, Err, arith}
use Rattle.std.specs.Str.Parse.{digits_value, ParsesUnsigned}
use Rattle.std.proofs.lemmas.Str.Parse.{parse_digits}
use Rattle.esc_bundle.specs.ListLaws.{digits_model}
use Rattle.esc_zone.specs.Signers.{IsNumber}

-- a text that is refused is no number
pub refused_number : {E : Type 0} (text : List ℕ) (e : E) (most y : ℕ)
    → ParsesUnsigned {E = E} 32 10 text (Err e) → most < 2 ^ 32 → IsNumber most text y → ⊥
refused_number {E} text e most y h fits n =
    let p = parse_digits digits_model {E = E} 32 text (Err e) h n.2 in
    let small : digits_value 10 text < 2 ^ 32 = omega (arith, n.3, n.4, fits) in p (n.0, small)
