-- The TLDs that bodies name (RFC 9022, section 5.7, and this project's profile).
use Rattle.std.specs.Prelude.{ℕ, Bool, List, [], ◌∷◌, ◌++◌, if◌then◌else◌}
use Rattle.std.specs.Prelude.{Option, Some, None, option_and_then}
use Rattle.std.specs.List.{list_any}
use Rattle.std.specs.Str.{str_eq_ignore_ascii_case}
use Rattle.esc_pack.specs.NamedTlds.{body_tld}

-- whether a name is among these, whatever the case of ASCII letters
abbrev pub is_name_among : List ℕ → List (List ℕ) → Bool
is_name_among tld names = list_any (str_eq_ignore_ascii_case tld) names

-- these names, and one more unless it is among them
abbrev pub with_tld : Option (List ℕ) → List (List ℕ) → List (List ℕ)
with_tld None names = names
with_tld (Some tld) names = if is_name_among tld names then names else names ++ tld ∷ []

-- these names, and the one that a body names, if it is there and does
abbrev pub with_tld_of : Option (List ℕ) → List (List ℕ) → List (List ℕ)
with_tld_of body names = with_tld (option_and_then body_tld body) names

-- these names, and those that bodies name which are there: each once, in the order of the bodies
abbrev pub with_tlds : List (Option (List ℕ)) → List (List ℕ) → List (List ℕ)
with_tlds [] names = names
with_tlds (body ∷ bodies) names = with_tlds bodies (with_tld_of body names)

-- the name among these, where there is one alone
abbrev pub only_name : List (List ℕ) → Option (List ℕ)
only_name [] = None
only_name (n ∷ []) = Some n
only_name (n ∷ m ∷ rest) = None
