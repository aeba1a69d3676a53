-- Why there is no bundle of a description and of files: each refusal is one that applies (this
-- project's profile).
use Rattle.std.specs.Prelude.{◌≡◌, ◌⊎◌, ◌+◌, ℕ, List, Bool, true, false, ◌==◌, ◌&&◌, Some}
use Rattle.std.specs.Prelude.{Ok, Err}
use Rattle.std.specs.Prelude.{length, slice_get}
use Rattle.std.specs.List.{list_all, zip}
use Rattle.std.specs.Str.{is_utf8}
use Rattle.esc_bundle.specs.declared.refusal.Refusal.{Refusal}
use Rattle.esc_bundle.specs.declared.fault.Fault.{Fault}
use Rattle.esc_bundle.specs.declared.fault.Fault.TheVariants.{Refused as refused_by}
use Rattle.esc_bundle.specs.declared.fault.Fault.TheVariants.{NoMemory as no_memory}
use Rattle.esc_bundle.specs.Bundle.{Named, IsBundle}
use Rattle.esc_bundle.specs.Writing.{IsUnwritten}
use Rattle.esc_csv.specs.Lines.{Line, text_of}
use Rattle.esc_csv.specs.Records.{IsUnmarked}
use Rattle.esc_envelope.specs.EnvelopeValue.{TableValue, EnvelopeValue}
use Rattle.esc_envelope.specs.Envelope.{envelope_of}
use Rattle.esc_tables.specs.Reading.{tables_of, reading}
use Rattle.esc_pack.specs.declared.bundle_fault.BundleFault.{BundleFault}
use Rattle.esc_pack.specs.declared.bundle_fault.BundleFault.TheVariants.{Refused, Unmatched}
use Rattle.esc_pack.specs.declared.bundle_fault.BundleFault.TheVariants.{Heading, Row, Marked}
use Rattle.esc_pack.specs.declared.bundle_fault.BundleFault.TheVariants.{NoMemory}
use Rattle.esc_pack.specs.GivenRows.{GivenTable, file_rows, given_rows, IsHeaded}
use Rattle.esc_pack.specs.Bundling.{AreSectionsOf}

-- the refusal of a body, a frame or an envelope, as that of files
abbrev pub of_fault : Fault → BundleFault
of_fault (refused_by refusal) = Refused refusal
of_fault no_memory = NoMemory

-- a refusal is one of these, or memory was refused
abbrev pub OrNoMemory : (BundleFault → Type 0) → BundleFault → Type 0
OrNoMemory P NoMemory = Unit {0}
OrNoMemory P e = P e

-- whether a row has so many fields, each of them UTF-8
abbrev pub is_table_row : ℕ → Line → Bool
is_table_row width fields = (length fields == width) && list_all is_utf8 fields

-- the row of this number, counted from 1, has another number of fields, or one that is no UTF-8
abbrev pub IsBrokenAt : ℕ → List Line → ℕ → Type 0
IsBrokenAt width rows number = (k : ℕ) × (fields : Line)
    × (number ≡ k + 1) × (slice_get rows k ≡ Some fields) × (is_table_row width fields ≡ false)

-- why the rows of a file are refused: one of them is broken
abbrev pub IsRowRefusal : ℕ → List Line → ℕ → ℕ → BundleFault → Type 0
IsRowRefusal width rows table file e =
    (number : ℕ) × (e ≡ Row table file number) × IsBrokenAt width rows number

-- why a file of a table is refused: it is to have a heading and has none, or a row is broken
abbrev pub IsFileRefusal : TableValue → Bool → List ℕ → ℕ → ℕ → BundleFault → Type 0
IsFileRefusal t has_heading text table file e =
    ((e ≡ Heading table file) × (has_heading ≡ true) × (IsHeaded t text → ⊥))
    ⊎ IsRowRefusal (length t.fields) (file_rows has_heading text) table file e

-- why the files of a table are refused: one of them is, or their rows begin with a mark
abbrev pub IsTableRefusal : TableValue × GivenTable → ℕ → BundleFault → Type 0
IsTableRefusal p table e = ((file : ℕ) × (text : List ℕ) × (slice_get p.1.files file ≡ Some text)
    × IsFileRefusal p.0 p.1.has_heading text table file e)
    ⊎ ((e ≡ Marked table) × (IsUnmarked (text_of (given_rows p.1)) → ⊥))

-- why some tables, each with its files, are refused: one of them is. They are counted from `first`
abbrev pub IsTablesRefusal : List (TableValue × GivenTable) → ℕ → BundleFault → Type 0
IsTablesRefusal pairs first e = (k : ℕ) × (p : TableValue × GivenTable)
    × (slice_get pairs k ≡ Some p) × IsTableRefusal p (first + k) e

-- why files are refused as those of an envelope: they are of another number of tables, or one is
abbrev pub IsGivenRefusal : EnvelopeValue → List GivenTable → BundleFault → Type 0
IsGivenRefusal envelope given e =
    ((e ≡ Unmatched) × (length given ≡ length (tables_of envelope) → ⊥))
    ⊎ IsTablesRefusal (zip (tables_of envelope) given) 0 e

-- there is no deposit of these sections: no bundle has them, or the one that has is none
abbrev pub HaveNoDeposit : List Named → Refusal → Type 0
HaveNoDeposit sections refusal = IsUnwritten sections refusal
    ⊎ ((body : List ℕ) × IsBundle body sections × (reading body ≡ Err refusal))

-- why there are no sections of a description and of files: it is no envelope, or the files are not
-- those that it declares
abbrev pub IsSectionsRefusal : List ℕ → List GivenTable → BundleFault → Type 0
IsSectionsRefusal description given e =
    ((refusal : Refusal) × (e ≡ Refused refusal) × (envelope_of description ≡ Err refusal))
    ⊎ ((envelope : EnvelopeValue) × (envelope_of description ≡ Ok envelope)
    × IsGivenRefusal envelope given e)

-- why there is no bundle of them: there are no sections, or they are no deposit
abbrev pub IsBundleRefusal : List ℕ → List GivenTable → BundleFault → Type 0
IsBundleRefusal description given e = IsSectionsRefusal description given e
    ⊎ ((refusal : Refusal) × (sections : List Named) × (e ≡ Refused refusal)
    × AreSectionsOf description given sections × HaveNoDeposit sections refusal)
