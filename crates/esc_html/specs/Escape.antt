-- How a text is escaped, and how what was escaped is read (HTML Standard, sections 13.1.2.3 and
-- 13.5).
use Rattle.std.specs.Prelude.{ℕ, List, [], ◌∷◌, ◌++◌, Bool, ◌||◌, ◌==◌, if◌then◌else◌}
use Rattle.std.specs.Prelude.{Option, Some}
use Rattle.std.specs.Prelude.{None, codes}
use Rattle.std.specs.List.{flat_map}
use Rattle.std.specs.Str.{bytes_eq}

-- what stands for a byte: a reference for each of the signs & < > " '
abbrev pub spelled : ℕ → List ℕ
spelled b =
    if b == 38 then codes "&amp;"
    else (if b == 60 then codes "&lt;"
    else (if b == 62 then codes "&gt;"
    else (if b == 34 then codes "&quot;"
    else (if b == 39 then codes "&#39;" else b ∷ []))))

-- a text, byte by byte
abbrev pub escaped : List ℕ → List ℕ
escaped text = flat_map spelled text

-- ---- reading

-- whether a byte is one of < > " '
abbrev pub is_markup_sign : ℕ → Bool
is_markup_sign b = (b == 60) || ((b == 62) || ((b == 34) || (b == 39)))

-- the sign to which a reference of this name leads
abbrev pub referred : List ℕ → Option ℕ
referred name =
    if bytes_eq name (codes "amp") then Some 38
    else (if bytes_eq name (codes "lt") then Some 60
    else (if bytes_eq name (codes "gt") then Some 62
    else (if bytes_eq name (codes "quot") then Some 34
    else (if bytes_eq name (codes "#39") then Some 39 else None))))

-- a sign before what else is read; nothing where either isn't read
abbrev pub before : Option ℕ → Option (List ℕ) → Option (List ℕ)
before (Some b) (Some text) = Some (b ∷ text)
before (Some b) None = None
before None text = None

-- what is read of what is left, where so much of a reference's name was read, or none has begun;
-- nothing where a sign stands for itself, or a reference leads to none or has no end
abbrev pub read_on : List ℕ → Option (List ℕ) → Option (List ℕ)
read_on [] None = Some []
read_on [] (Some name) = None
read_on (b ∷ rest) None =
    if b == 38 then read_on rest (Some [])
    else (if is_markup_sign b then None else before (Some b) (read_on rest None))
read_on (b ∷ rest) (Some name) =
    if b == 59 then before (referred name) (read_on rest None)
    else read_on rest (Some (name ++ b ∷ []))

-- the text that is read of what was escaped
abbrev pub read_text : List ℕ → Option (List ℕ)
read_text bytes = read_on bytes None
