use Rattle.std.proofs.Common.{◌≡◌, ℕ, List, Option, Some, None, Result, Ok, Err, refl}
use Rattle.esc_manifest.specs.declared.refusal.ManifestRefusal.{ManifestRefusal}
use Rattle.esc_manifest.specs.declared.fault.ManifestFault.{ManifestFault}
use Rattle.esc_manifest.specs.declared.row.MRow.{MRow}
use Rattle.esc_manifest.specs.RowFaults.{rows_fault}
use Rattle.esc_pack.proofs.release.accepted.Goals as goal

-- a manifest is answered for rows without a fault alone, and it has them
answered : (o : Option (ManifestRefusal × ℕ))
    {r : Result (List MRow) ManifestFault} {rows m : List MRow} → r ≡ Ok m → (o ≡ None → r ≡ Ok rows)
    → ((code : ManifestRefusal) (row : ℕ)
    → o ≡ Some (code, row) → r ≡ Err (ManifestFault.Refused code row)) → (m ≡ rows) × (o ≡ None)
answered None is free fault = let right = free refl in (cc, refl)
answered (Some (code, row)) is free fault = let wrong = fault code row refl in absurd cc

pub returns-in-Ok-clause-accepted : goal.returns-in-Ok-clause-accepted
returns-in-Ok-clause-accepted c =
    answered (rows_fault c.args.rows.items) c.in-Ok.is c.from_rows.ensures.accepted c.from_rows.ensures.refused
