-- What a desk returns for an amendment.
use Rattle.std.specs.Prelude.{◌≡◌, ◌⊎◌, ◌≤◌, ◌==◌, ℕ, List, [], ◌∷◌, ◌++◌, length}
use Rattle.std.specs.Prelude.{Result, Ok, Err}
use Rattle.std.specs.Prelude.{MatchResult, if◌then◌else◌}
use Rattle.sqlite_trees.specs.declared.store.Store.{Ghosts}
use Rattle.esc_manifest.specs.declared.refusal.ManifestRefusal.{ManifestRefusal}
use Rattle.esc_manifest.specs.declared.fault.ManifestFault.TheVariants.{Refused as RefusedRow}
use Rattle.esc_manifest.specs.declared.fault.ManifestFault.TheVariants.{NoMemory}
use Rattle.esc_manifest.specs.declared.row.MRow.{MRow}
use Rattle.esc_manifest.specs.Extension.{new_rows, extended, extension}
use Rattle.esc_manifest.specs.Manifest.{manifest_of}
use Rattle.esc_manifest.specs.RowFaults.{most_manifest_rows}
use Rattle.esc_apply.specs.declared.moves.Work.{Work}
use Rattle.esc_store.specs.Faults.{IsFailure}
use Rattle.esc_events.specs.Events.{EventValue, union}
use Rattle.esc_events.specs.Works.{IsWorkOf, no_work}
use Rattle.esc_desk.specs.declared.amendment.AmendFault.{AmendFault}
use Rattle.esc_desk.specs.declared.amendment.AmendFault.TheVariants.{M, Store as OfStore}
use Rattle.esc_desk.specs.declared.desk.Desk.{Desk}
use Rattle.esc_desk.specs.Asked.{amendment_of}
use Rattle.esc_desk.specs.Crashes.{CrashLeaves, LeavesRefused}
use Rattle.esc_desk.specs.Reflection.{DeskReflects}

-- a text reads as an accepted manifest; the union with it is accepted, and has this many rows more
pub record AddsRows (e : List EventValue) (text : List ℕ) (count : ℕ) : Type 0 where
  pub rows : List MRow
  pub read : manifest_of text ≡ Ok rows
  pub accepted : extension (union e) rows ≡ Ok (extended (union e) rows)
  pub count_is : count ≡ length (new_rows (union e) rows)

-- an amendment was taken in: the desk reflects the events with it, this many rows were added, and
-- this was the work, none if no row was added
pub record IsAmended {S : Type 0} (g : Ghosts S) (desk : Desk S) (e : List EventValue)
    (text : List ℕ) (count : ℕ) (work : Work) : Type 0 where
  pub adds : AddsRows e text count
  pub serves : DeskReflects g desk (e ++ amendment_of text ∷ [])
  pub works : IsWorkOf e (amendment_of text) work
  pub idle : count ≡ 0 → work ≡ no_work

-- a text is no accepted manifest, or its union with these rows is none, by this refusal at this row
abbrev pub IsRefusedUnion : List MRow → List ℕ → ManifestRefusal → ℕ → Type 0
IsRefusedUnion m text refusal row = (manifest_of text ≡ Err (refusal, row))
    ⊎ ((rows : List MRow) × (manifest_of text ≡ Ok rows)
    × (extension m rows ≡ Err (refusal, row)))

-- why an amendment isn't taken in, where these rows are listed: its text is refused, at a row of a
-- manifest or, as row 0, at none; or it is lost by S1 or S2
abbrev pub IsAmendCause : List MRow → List ℕ → AmendFault → Type 0
IsAmendCause m text (M (RefusedRow refusal row)) =
    (row ≤ most_manifest_rows) × IsRefusedUnion m text refusal row
IsAmendCause m text (M NoMemory) = ⊥
IsAmendCause m text (OfStore fault) = IsFailure fault

-- an amendment's text is refused, or it is lost by S1 or S2
abbrev pub IsAmendFault : AmendFault → Type 0
IsAmendFault (M (RefusedRow refusal row)) = row ≤ most_manifest_rows
IsAmendFault (M NoMemory) = ⊥
IsAmendFault (OfStore fault) = IsFailure fault

-- what a crash leaves after an amendment that wasn't taken in: after S1 or S2 it may be
abbrev pub LeavesUnamended : {S : Type 0} → Ghosts S → Desk S → List EventValue → List EventValue
    → List ℕ → AmendFault → Type 0
LeavesUnamended g desk e doubtful text (M fault) = CrashLeaves g desk.store.conn e doubtful
LeavesUnamended g desk e doubtful text (OfStore fault) =
    LeavesRefused g desk.store.conn e doubtful (amendment_of text) fault

-- what a crash leaves after an amendment, by its answer: where no row was added, what was in doubt
-- still is
abbrev pub DeskLeavesAmended : {S : Type 0} → Ghosts S → Desk S → List EventValue
    → List EventValue → List ℕ → Result (ℕ × Work) AmendFault → Type 0
DeskLeavesAmended g desk e doubtful text result =
    MatchResult result
    (λ p. CrashLeaves g desk.store.conn (e ++ amendment_of text ∷ [])
    (if p.0 == 0 then doubtful else []))
    (LeavesUnamended g desk e doubtful text)

-- ---- how it is made

-- the union of these rows and those of a text
pub record IsUnionWith (m : List MRow) (text : List ℕ) (united : List MRow) : Type 0 where
  pub rows : List MRow
  pub read : manifest_of text ≡ Ok rows
  pub accepted : extension m rows ≡ Ok united
  pub is_union : united ≡ extended m rows
