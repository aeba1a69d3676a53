-- The names of TLDs, as texts.
use Rattle.std.proofs.Common.{◌≡◌, ℕ, List, [], ◌∷◌, map, refl, ap, ◌||◌, Global}
use Rattle.std.specs.Prelude.{String, string_bytes}
use Rattle.std.specs.List.{list_any}
use Rattle.std.specs.Str.{str_eq_ignore_ascii_case}
use Rattle.esc_acceptance.specs.Tlds.{is_name_among}

-- whether a name is among these is asked of their texts
pub any_named : (tld : List ℕ) (names : List (String Global))
    → list_any (λ (n : String Global). str_eq_ignore_ascii_case tld (string_bytes n)) names
    ≡ is_name_among tld (map string_bytes names)
any_named tld [] = refl
any_named tld (n ∷ names) =
    ap (λ b. str_eq_ignore_ascii_case tld (string_bytes n) || b) (any_named tld names)
