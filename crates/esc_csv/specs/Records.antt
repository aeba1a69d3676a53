-- The records of a text (RFC 4180), as the library `csv` reads them: commas, double quotes, no
-- heading, no trimming, any number of fields. Empty lines are no records, and a byte order mark at
-- the start is dropped.
use Rattle.std.specs.Prelude.{◌≡◌, ℕ, List, [], slice_index_or}
use Rattle.csv.specs.Reading.{records, default_config, strip_bom}

-- the records of a text; each record is the list of its fields
abbrev pub records_of : List ℕ → List (List (List ℕ))
records_of text = records default_config (strip_bom text)

-- a field of a record, by its index from 0; empty if there is none
abbrev pub field : List (List ℕ) → ℕ → List ℕ
field r place = slice_index_or r place []

-- a text that doesn't begin with a byte order mark
abbrev pub IsUnmarked : List ℕ → Type 0
IsUnmarked text = strip_bom text ≡ text
