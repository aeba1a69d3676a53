-- When a body is a deposit, and which refusal applies otherwise (RFC 8909, section 2, and this
-- project's profile).
use Rattle.std.specs.Prelude.{◌≡◌, ◌⊎◌, ◌≤◌, ◌<◌, ℕ, List, ◌∷◌, length, map, true}
use Rattle.std.specs.Prelude.{false, Ok, Err}
use Rattle.std.specs.Prelude.{T}
use Rattle.std.specs.List.{list_all}
use Rattle.std.specs.FinMap.Entries.{find, is_sorted}
use Rattle.esc_bundle.specs.declared.refusal.Refusal.{Refusal}
use Rattle.esc_bundle.specs.declared.refusal.Refusal.TheVariants.{WrongFiles, BrokenRow, WrongKey}
use Rattle.esc_bundle.specs.declared.refusal.Refusal.TheVariants.{TooManyRows}
use Rattle.esc_bundle.specs.Bundle.{Named, IsBundle}
use Rattle.esc_bundle.specs.Codes.{refusal_number}
use Rattle.esc_bundle.specs.Reading.{IsFault}
use Rattle.esc_envelope.specs.EnvelopeValue.{EnvelopeValue}
use Rattle.esc_envelope.specs.Envelope.{envelope_of}
use Rattle.esc_tables.specs.DepositValue.{DepositValue}
use Rattle.esc_tables.specs.KeyName.{KeyName, key_cmp}
use Rattle.esc_tables.specs.TableRow.{TableRow, are_filed, rows_in, is_whole, has_key, key_of}
use Rattle.esc_tables.specs.Objects.{object_of, orphans_of}
use Rattle.esc_tables.specs.Reading.{tables_of, parent_rows, child_rows, most_rows}

-- all rows of a bundle
abbrev pub all_rows : List Named → EnvelopeValue → List TableRow
all_rows files e = rows_in files (tables_of e)

-- the rows make this deposit: its keys are in ascending order, and each has the object that the
-- rows make of it
pub record Makes (files : List Named) (e : EnvelopeValue) (d : DepositValue) : Type 0 where
  pub header : d.header ≡ e.header
  pub counts : d.counts ≡ e.counts
  pub deletes : d.deletes ≡ map key_of (rows_in files e.deletes)
  pub sorted : T (is_sorted key_cmp d.contents)
  pub objects : (k : KeyName) → find key_cmp k d.contents
      ≡ object_of (parent_rows files e) (child_rows files e) k
  pub orphans : d.orphans ≡ orphans_of (parent_rows files e) (child_rows files e)

-- the body is a bundle of an envelope and of files, and their rows make this deposit
pub record IsDepositOf (body : List ℕ) (d : DepositValue) : Type 0 where
  pub first : Named
  pub files : List Named
  pub bundle : IsBundle body (first ∷ files)
  pub envelope : EnvelopeValue
  pub told : envelope_of first.bytes ≡ Ok envelope
  pub filed : are_filed files (tables_of envelope) ≡ true
  pub whole : list_all is_whole (all_rows files envelope) ≡ true
  pub named : list_all has_key (all_rows files envelope) ≡ true
  pub few : length (all_rows files envelope) ≤ most_rows
  pub made : Makes files envelope d

-- this refusal, one of the four of files and rows (U8 to U11), applies
abbrev pub IsDepositFault : List Named → EnvelopeValue → Refusal → Type 0
IsDepositFault files e why =
    ((why ≡ WrongFiles) × (are_filed files (tables_of e) ≡ false))
    ⊎ ((why ≡ BrokenRow) × (list_all is_whole (all_rows files e) ≡ false))
    ⊎ ((why ≡ WrongKey) × (list_all has_key (all_rows files e) ≡ false))
    ⊎ ((why ≡ TooManyRows) × (most_rows < length (all_rows files e)))

-- it applies, and none with a lesser number does
abbrev pub IsLeastDepositFault : List Named → EnvelopeValue → Refusal → Type 0
IsLeastDepositFault files e why = IsDepositFault files e why × ((other : Refusal)
    → IsDepositFault files e other → refusal_number why ≤ refusal_number other)

-- the envelope of this bundle is refused, or it is an envelope and its files are refused
abbrev pub IsRefusedAt : Named → List Named → Refusal → Type 0
IsRefusedAt first files why = (envelope_of first.bytes ≡ Err why)
    ⊎ ((e : EnvelopeValue) × (envelope_of first.bytes ≡ Ok e) × IsLeastDepositFault files e why)

-- the body is refused with this refusal: its frame is refused, or its envelope, or its files are
abbrev pub IsRefused : List ℕ → Refusal → Type 0
IsRefused body why = IsFault body why
    ⊎ ((first : Named) × (files : List Named) × IsBundle body (first ∷ files)
    × IsRefusedAt first files why)
