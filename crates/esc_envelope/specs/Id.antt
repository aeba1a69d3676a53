-- The form of ids and of the numbers of arrivals (this project's profile).
use Rattle.std.specs.Prelude.{ℕ, List, Bool, ◌==◌, ◌&&◌, ◌||◌, nat_lt, nat_le, length}
use Rattle.std.specs.List.{list_all}

-- a byte of an id: A to Z, a to z, 0 to 9, a dot, an underscore or a dash
abbrev pub is_id_byte : ℕ → Bool
is_id_byte b = (nat_le 65 b && nat_le b 90) || (nat_le 97 b && nat_le b 122)
    || (nat_le 48 b && nat_le b 57) || (b == 46) || (b == 95) || (b == 45)

-- 1 to 64 such bytes
abbrev pub is_id : List ℕ → Bool
is_id text = nat_lt 0 (length text) && nat_le (length text) 64 && list_all is_id_byte text
