-- A refused extension, by the fault of the union.
use Rattle.std.proofs.Common.{◌≡◌, ℕ, List, Some, Result, Ok, Err, ap}
use Rattle.esc_manifest.specs.declared.refusal.ManifestRefusal.{ManifestRefusal}
use Rattle.esc_manifest.specs.declared.refusal.ManifestRefusal.TheVariants.{OverLimit}
use Rattle.esc_manifest.specs.declared.row.MRow.{MRow}
use Rattle.esc_manifest.specs.declared.fault.ManifestFault.{ManifestFault}
use Rattle.esc_manifest.specs.declared.fault.ManifestFault.TheVariants.{Refused, NoMemory}
use Rattle.esc_manifest.specs.RowFaults.{rows_fault}
use Rattle.esc_manifest.specs.Extension.{extended, union_or, blamed, extension}

-- an extension whose union has a fault is refused by it
pub extension_refused : (m more : List MRow) (code : ManifestRefusal) (row : ℕ) → rows_fault
    (extended m more) ≡ Some (code, row) → extension m more ≡ Err (code, blamed code m more)
unfolding extension
extension_refused m more code row is = ap (union_or m more) is

-- a refusal and its row; of any other result, any
abbrev pub told : {X : Type 0} → Result X ManifestFault → Result (List MRow) (ManifestRefusal × ℕ)
told (Ok x) = Err (OverLimit, 0)
told (Err (Refused code row)) = Err (code, row)
told (Err NoMemory) = Err (OverLimit, 0)

-- the row of a refusal
abbrev pub told_row : {X : Type 0} → Result X ManifestFault → ℕ
told_row (Ok x) = 0
told_row (Err (Refused code row)) = row
told_row (Err NoMemory) = 0
