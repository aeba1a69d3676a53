-- The verdict on a body (this project's profile; the comparison is with what RFC 8909 has a deposit
-- say of itself).
use Rattle.std.specs.Prelude.{ℕ, if◌then◌else◌, List, Option, Some, None, Result, Ok, Err}
use Rattle.esc_bundle.specs.declared.refusal.Refusal.{Refusal}
use Rattle.esc_tables.specs.DepositValue.{DepositValue}
use Rattle.esc_manifest.specs.declared.row.MRow.{MRow}
pub use Rattle.esc_manifest.specs.Listed.{as_listed, row_with_digest}
use Rattle.esc_manifest.specs.ManifestRows.{row_at}
use Rattle.esc_events.specs.declared.assessment.Assessment.{Assessment}
use Rattle.esc_events.specs.declared.assessment.Assessment.TheVariants.{Unlisted, Unreadable}
use Rattle.esc_events.specs.declared.assessment.Assessment.TheVariants.{Differing, Holding}

-- what is found at row r, if this deposit reads from the body
abbrev pub compared : List MRow → ℕ → DepositValue → Assessment
compared m r d = if as_listed (row_at m r).header d.header then Holding r d else Differing r

-- what is found at row r: the refusal of the body, or how its deposit compares with the row
abbrev pub found : List MRow → ℕ → Result DepositValue Refusal → Assessment
found m r (Ok d) = compared m r d
found m r (Err refusal) = Unreadable r refusal

abbrev pub found_at : List MRow → Option ℕ → Result DepositValue Refusal → Assessment
found_at m None reading = Unlisted
found_at m (Some r) reading = found m r reading

-- what is found of a body: no row has its digest; or at the row that has it, no deposit reads from
-- the body, or another deposit than listed, or the listed one
abbrev pub assessment : (List ℕ → List ℕ) → (List ℕ → Result DepositValue Refusal) → List MRow
    → List ℕ → Assessment
assessment digest reads m body = found_at m (row_with_digest m (digest body)) (reads body)

-- the row whose deposit the body is, if any
abbrev pub held_row : Assessment → Option ℕ
held_row Unlisted = None
held_row (Unreadable r n) = None
held_row (Differing r) = None
held_row (Holding r d) = Some r
