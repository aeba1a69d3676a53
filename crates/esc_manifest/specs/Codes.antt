-- The document's numbers of the refusals, and how a fault is printed.
use Rattle.std.specs.Prelude.{ℕ, List, ◌∷◌, ◌++◌, codes}
use Rattle.std.specs.Fmt.{decimal}
use Rattle.esc_manifest.specs.declared.refusal.ManifestRefusal.{ManifestRefusal}
use Rattle.esc_manifest.specs.declared.refusal.ManifestRefusal.TheVariants.{OverLimit, NotSixFields}
use Rattle.esc_manifest.specs.declared.refusal.ManifestRefusal.TheVariants.{WrongHeading, WrongId}
use Rattle.esc_manifest.specs.declared.refusal.ManifestRefusal.TheVariants.{WrongType}
use Rattle.esc_manifest.specs.declared.refusal.ManifestRefusal.TheVariants.{WrongWatermark}
use Rattle.esc_manifest.specs.declared.refusal.ManifestRefusal.TheVariants.{MissingPrev}
use Rattle.esc_manifest.specs.declared.refusal.ManifestRefusal.TheVariants.{WrongResend}
use Rattle.esc_manifest.specs.declared.refusal.ManifestRefusal.TheVariants.{WrongDigest}
use Rattle.esc_manifest.specs.declared.refusal.ManifestRefusal.TheVariants.{RepeatedRevision}
use Rattle.esc_manifest.specs.declared.refusal.ManifestRefusal.TheVariants.{MovedId, LatePrev}
use Rattle.esc_manifest.specs.declared.refusal.ManifestRefusal.TheVariants.{RepeatedDigest}
use Rattle.esc_manifest.specs.declared.fault.ManifestFault.{ManifestFault}
use Rattle.esc_manifest.specs.declared.fault.ManifestFault.TheVariants.{Refused, NoMemory}

-- the number of a refusal; of several refusals that apply, the one with the least is returned
abbrev pub manifest_number : ManifestRefusal → ℕ
manifest_number OverLimit = 1
manifest_number NotSixFields = 2
manifest_number WrongHeading = 3
manifest_number WrongId = 4
manifest_number WrongType = 5
manifest_number WrongWatermark = 6
manifest_number MissingPrev = 7
manifest_number WrongResend = 8
manifest_number WrongDigest = 9
manifest_number RepeatedRevision = 10
manifest_number MovedId = 11
manifest_number LatePrev = 12
manifest_number RepeatedDigest = 13

-- the code of a refusal: `M` and its number
abbrev pub manifest_code : ManifestRefusal → List ℕ
manifest_code refusal = 77 ∷ decimal (manifest_number refusal)

-- the text of a fault: the code of the refusal and its row, or the words for out of memory
abbrev pub manifest_fault_text : ManifestFault → List ℕ
manifest_fault_text (Refused refusal row) = manifest_code refusal ++ (codes " row " ++ decimal row)
manifest_fault_text NoMemory = codes "out of memory"
