-- The text of a release manifest, and why there is none.
use Rattle.std.specs.Prelude.{◌≡◌, ◌⊎◌, ◌<◌, ℕ, List, length, Ok, Some}
use Rattle.esc_manifest.specs.declared.refusal.ManifestRefusal.{ManifestRefusal}
use Rattle.esc_manifest.specs.declared.refusal.ManifestRefusal.TheVariants.{OverLimit}
use Rattle.esc_manifest.specs.declared.row.MRow.{MRow}
use Rattle.esc_manifest.specs.Manifest.{manifest_of, most_bytes}
use Rattle.esc_manifest.specs.RowFaults.{rows_fault}
use Rattle.esc_pack.specs.declared.fault.ReleaseFault.{ReleaseFault}
use Rattle.esc_pack.specs.declared.fault.ReleaseFault.TheVariants.{Unlisted, NoMemory}
use Rattle.esc_pack.specs.Release.{IsOrdered}
use Rattle.esc_pack.specs.Written.{manifest_text}

-- the text is a manifest, whose rows are exactly these in the order of places
pub record IsManifestOf (rows : List MRow) (text : List ℕ) : Type 0 where
  pub m : List MRow
  pub ordered : IsOrdered rows m
  pub written : text ≡ manifest_text m
  pub read : manifest_of text ≡ Ok m

-- rows have this refusal: as rows, or since their text is too long
abbrev pub IsUnlisted : List MRow → ManifestRefusal → ℕ → Type 0
IsUnlisted m refusal row =
    (rows_fault m ≡ Some (refusal, row))
    ⊎ ((refusal ≡ OverLimit) × (row ≡ 0) × (most_bytes < length (manifest_text m)))

-- why there is no manifest of these rows
abbrev pub IsManifestRefusal : List MRow → ReleaseFault → Type 0
IsManifestRefusal rows (Unlisted refusal row) =
    (m : List MRow) × IsOrdered rows m × IsUnlisted m refusal row
IsManifestRefusal rows NoMemory = Unit {0}

-- rows in order have a fault, or memory was refused; there is no other reason
abbrev pub UnlistedAlone : List MRow → ReleaseFault → Type 0
UnlistedAlone m (Unlisted refusal row) = rows_fault m ≡ Some (refusal, row)
UnlistedAlone m NoMemory = Unit {0}
