-- The report of parked bodies (this project's profile).
use Rattle.std.specs.Prelude.{ℕ, List, [], ◌∷◌, ◌++◌, map, codes}
use Rattle.std.specs.Fmt.{decimal}
use Rattle.hex.specs.Hex.{encode_lower}
use Rattle.esc_csv.specs.Lines.{Line, line_text, text_of}
use Rattle.esc_store.specs.declared.parked.ParkedBody.{ParkedBody}

-- the first line
abbrev pub parked_heading : Line
parked_heading = codes "sha256" ∷ codes "bytes" ∷ []

-- the line of a body: its digest as lower-case hexadecimal digits, and its length in bytes
abbrev pub parked_line : ParkedBody → Line
parked_line p = encode_lower p.digest ∷ decimal p.bytes ∷ []

-- the lines of bodies
abbrev pub parked_lines : List ParkedBody → List ℕ
parked_lines bodies = text_of (map parked_line bodies)

-- the report: the heading, and a line for each body
abbrev pub parked_text : List ParkedBody → List ℕ
parked_text bodies = line_text parked_heading ++ parked_lines bodies
