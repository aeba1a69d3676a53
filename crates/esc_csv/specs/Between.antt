-- A reader between two records of a text, and a writer between two lines.
use Rattle.std.specs.Prelude.{◌≡◌, ℕ, ◌+◌, List, [], length, Option, Some, unwrap_or, true, false}
use Rattle.std.specs.Borrow.{Bor}
use Rattle.csv.specs.Machine.{ends_at_end}
use Rattle.csv.specs.Reading.{records_from, default_config, source_of, Ready, is_flexible}
use Rattle.csv.specs.Writing.{writer_setup, fields_written, has_written}
use Rattle.csv.specs.declared.parser.State.{State}
use Rattle.csv.specs.declared.reader.Reader.{Reader}
use Rattle.csv.specs.declared.reader.Trim.TheVariants as trim
use Rattle.csv.specs.declared.writer.Writer.{Writer}
use Rattle.esc_csv.specs.Lines.{line_writer}

-- the records of a text from a state of the library's reader
abbrev pub records_at : State → List ℕ → List (List (List ℕ))
records_at state text = records_from default_config (length text + 1) state text

-- the bytes that a reader of a slice has not read
abbrev pub unread : Reader (Bor (List ℕ)) → Option (List ℕ)
unread reader = source_of (λ s. Some s.now) reader

-- the records that a reader has not read
abbrev pub records_left : Reader (Bor (List ℕ)) → List (List (List ℕ))
records_left reader = records_at reader.state (unwrap_or (unread reader) [])

-- the reader is between two records
pub record IsReading (reader : Reader (Bor (List ℕ))) : Type 0 where
  pub trim : reader.trim ≡ trim.None
  pub ready : Ready reader
  pub config : reader.config ≡ default_config
  pub flexible : is_flexible reader ≡ true
  pub between : ends_at_end reader.state ≡ false
  pub rest : List ℕ
  pub source : unread reader ≡ Some rest

-- the writer is at the start of a line
pub record IsReady {W : Type 0} (w : Writer W) : Type 0 where
  pub setup : writer_setup w ≡ line_writer
  pub fields : fields_written w ≡ 0
  pub wrote : has_written w ≡ false
