-- The numbers that digits write.
use Rattle.std.proofs.Common.{◌≡◌, ℕ, ◌^◌, ◌<◌, ◌≤◌, true, List, length, Some, Ok, Err, ap, arith}
use Rattle.std.specs.Prelude.{Result}
use Rattle.std.specs.List.{list_all}
use Rattle.std.specs.Result.{result_ok}
use Rattle.std.specs.Char.{is_ascii_digit}
use Rattle.std.specs.Str.Parse.{digits_value, ParsesUnsigned}
use Rattle.std.proofs.lemmas.Str.Parse.{parse_digits, digits_value_short}
use Rattle.esc_bundle.specs.ListLaws.{digits_model}

-- nine digits fit
fits : (ds : List ℕ) → list_all is_ascii_digit ds ≡ true → length ds ≤ 9 → digits_value 10 ds < 2 ^ 32
fits ds all few = omega (arith, digits_value_short digits_model ds 9 all few)

pub digits_read : {E : Type 0} (ds : List ℕ) (r : Result ℕ E)
    → ParsesUnsigned {E = E} 32 10 ds r → 0 < length ds → length ds ≤ 9
    → list_all is_ascii_digit ds ≡ true → result_ok r ≡ Some (digits_value 10 ds)
digits_read {E} ds (Ok v) h some few all =
    let p = parse_digits digits_model {E = E} 32 ds (Ok v) h all in ap Some p.1
digits_read {E} ds (Err e) h some few all =
    let p = parse_digits digits_model {E = E} 32 ds (Err e) h all in absurd (p (some, fits ds all few))
