-- The text of records (RFC 4180): a line for each, ended by LF.
use Rattle.std.specs.Prelude.{ℕ, List, true}
use Rattle.std.specs.List.{flat_map}
use Rattle.csv.specs.declared.writer.WriterBuilder.{WriterBuilder}
use Rattle.csv.specs.Writing.{default_writer, with_flexible, row_text}

-- a line: its fields, each of them bytes
abbrev pub Line : Type 0
Line = List (List ℕ)

-- how lines are written: each is ended by LF, has quotes only where it needs them, and may have any
-- number of fields
abbrev pub line_writer : WriterBuilder
line_writer = with_flexible default_writer true

-- a line as it is written
abbrev pub line_text : Line → List ℕ
line_text fields = row_text line_writer fields

-- lines as they are written
abbrev pub text_of : List Line → List ℕ
text_of lines = flat_map line_text lines
