-- The bundle of a description and of an agent's files (this project's profile).
use Rattle.std.specs.Prelude.{◌≡◌, ℕ, List, ◌∷◌, length, map, true, Ok, All}
use Rattle.std.specs.List.{zip}
use Rattle.esc_bundle.specs.Bundle.{Named, IsBundle, envelope_name}
use Rattle.esc_csv.specs.Lines.{text_of}
use Rattle.esc_envelope.specs.EnvelopeValue.{TableValue, EnvelopeValue}
use Rattle.esc_envelope.specs.Envelope.{envelope_of}
use Rattle.esc_tables.specs.TableRow.{table_rows, in_table}
use Rattle.esc_tables.specs.Reading.{tables_of, deposit_of_files, reading}
use Rattle.esc_pack.specs.GivenRows.{GivenTable, given_rows, IsHeaded, IsReadBack}

-- the section of a table: the text of the rows that its files have
abbrev pub section_of : TableValue × GivenTable → Named
section_of p = record { name = p.0.file; bytes = text_of (given_rows p.1) }

-- the sections of tables, each with its files
abbrev pub sections_of : List TableValue → List GivenTable → List Named
sections_of tables given = map section_of (zip tables given)

-- where the files of a table have headings, each begins with one
abbrev pub AreHeaded : TableValue × GivenTable → Type 0
AreHeaded p = p.1.has_heading ≡ true → All (IsHeaded p.0) p.1.files

-- the first section
abbrev pub description_section : List ℕ → Named
description_section description = record { name = envelope_name; bytes = description }

-- these are the sections of the bundle of a description and of files whose rows can be read back
pub record AreSectionsOf (description : List ℕ) (given : List GivenTable) (sections : List Named)
    : Type 0 where
  pub envelope : EnvelopeValue
  pub told : envelope_of description ≡ Ok envelope
  pub matched : length given ≡ length (tables_of envelope)
  pub headings : All AreHeaded (zip (tables_of envelope) given)
  pub are : sections
      ≡ description_section description ∷ sections_of (tables_of envelope) given
  pub read : All IsReadBack given

-- the body is the bundle of this description and of these files, in the order in which it declares
-- its tables; a row that is dropped as a heading names just the declared fields, and what is read of
-- it is what the others make
pub record IsBundleOf (description : List ℕ) (given : List GivenTable) (body : List ℕ)
    : Type 0 where
  pub envelope : EnvelopeValue
  pub told : envelope_of description ≡ Ok envelope
  pub matched : length given ≡ length (tables_of envelope)
  pub headings : All AreHeaded (zip (tables_of envelope) given)
  pub bundle : IsBundle body
      (description_section description ∷ sections_of (tables_of envelope) given)
  pub rows : map (table_rows (sections_of (tables_of envelope) given)) (tables_of envelope)
      ≡ map (λ p. map (in_table p.0) (given_rows p.1)) (zip (tables_of envelope) given)
  pub read : reading body
      ≡ Ok (deposit_of_files (sections_of (tables_of envelope) given) envelope)
