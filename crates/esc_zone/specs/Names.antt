-- Names of the DNS that may stand in the zone (RFC 1035, sections 2.3.1 and 2.3.4).
use Rattle.std.specs.Prelude.{ℕ, ◌-◌, List, [], ◌∷◌, length, drop, slice_index, Bool, ◌==◌}
use Rattle.std.specs.Prelude.{Option, Some, slice_get}
use Rattle.std.specs.Option.{unwrap_or}
use Rattle.std.specs.Char.{is_ascii_digit}
use Rattle.std.specs.Prelude.{◌&&◌, ◌||◌}
use Rattle.std.specs.Prelude.{not, nat_le, if◌then◌else◌}
use Rattle.std.specs.List.{list_all, list_any, last_or, slice_split}
use Rattle.std.specs.Str.{bytes_eq}
use Rattle.std.specs.declared.cmp.Ordering.{Ordering}
use Rattle.std.specs.Ordering.{nat_cmp, eq_by_cmp}
use Rattle.std.specs.Cmp.Lexicographic.{slice_cmp}

abbrev pub is_dot : ℕ → Bool
is_dot b = b == 46

-- a byte of a label: a to z, 0 to 9, a hyphen or an underscore
abbrev pub is_label_byte : ℕ → Bool
is_label_byte b = (nat_le 97 b && nat_le b 122) || (nat_le 48 b && nat_le b 57) || (b == 45)
    || (b == 95)

-- 1 to 63 such bytes, neither the first nor the last of them a hyphen
abbrev pub is_label : List ℕ → Bool
is_label label = not (length label == 0) && nat_le (length label) 63
    && list_all is_label_byte label && not (slice_index label 0 == 45)
    && not (slice_index label (length label - 1) == 45)

-- labels with dots between them
abbrev pub are_labels : List ℕ → Bool
are_labels name = list_all is_label (slice_split is_dot name)

-- a name: labels with dots between them, 253 bytes at most
abbrev pub is_zone_name : List ℕ → Bool
is_zone_name name = nat_le (length name) 253 && are_labels name

-- the names above a name, from the nearest on: what follows each of its dots
abbrev pub names_above : List ℕ → List (List ℕ)
names_above [] = []
names_above (b ∷ rest) = if is_dot b then rest ∷ names_above rest else names_above rest

-- the nearest of them
abbrev pub name_above : List ℕ → Option (List ℕ)
name_above name = slice_get (names_above name) 0

-- whether these bytes are a name, without underscores if these are not allowed
abbrev pub is_name_with : Bool → List ℕ → Bool
is_name_with underscores name = is_zone_name name
    && (underscores || not (list_any (λ b. b == 95) name))

-- the last label of a text: what follows its last dot
abbrev pub last_label : List ℕ → List ℕ
last_label text = unwrap_or (last_or (Some text) (names_above text)) []

-- whether that is a number, as in an address
abbrev pub ends_in_number : List ℕ → Bool
ends_in_number text = not (length (last_label text) == 0)
    && list_all is_ascii_digit (last_label text)

-- whether a text is a server's name
abbrev pub is_server_name : Bool → List ℕ → Bool
is_server_name underscores text = not (ends_in_number text) && is_name_with underscores text

-- whether a name is another one, or ends with a dot and that one
abbrev pub is_below : List ℕ → List ℕ → Bool
is_below name above = if nat_le (length name) (length above) then bytes_eq name above
    else (slice_index name (length name - length above - 1) == 46)
    && bytes_eq (drop (length name - length above) name) above

-- the order of names: by bytes
abbrev pub name_cmp : List ℕ → List ℕ → Ordering
name_cmp = slice_cmp nat_cmp

abbrev pub name_eq : List ℕ → List ℕ → Bool
name_eq = eq_by_cmp name_cmp
