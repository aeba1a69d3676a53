-- Laws of the refusals' numbers.
use Rattle.std.proofs.Common.{◌≡◌, ◌∙◌, ℕ, ◌-◌, List, [], ◌∷◌, get_or, refl, sym, ap}
use Rattle.esc_manifest.specs.declared.refusal.ManifestRefusal.{ManifestRefusal}
use Rattle.esc_manifest.specs.declared.refusal.ManifestRefusal.TheVariants.{OverLimit, NotSixFields}
use Rattle.esc_manifest.specs.declared.refusal.ManifestRefusal.TheVariants.{WrongHeading, WrongId}
use Rattle.esc_manifest.specs.declared.refusal.ManifestRefusal.TheVariants.{WrongType}
use Rattle.esc_manifest.specs.declared.refusal.ManifestRefusal.TheVariants.{WrongWatermark}
use Rattle.esc_manifest.specs.declared.refusal.ManifestRefusal.TheVariants.{MissingPrev}
use Rattle.esc_manifest.specs.declared.refusal.ManifestRefusal.TheVariants.{WrongResend}
use Rattle.esc_manifest.specs.declared.refusal.ManifestRefusal.TheVariants.{WrongDigest}
use Rattle.esc_manifest.specs.declared.refusal.ManifestRefusal.TheVariants.{RepeatedRevision}
use Rattle.esc_manifest.specs.declared.refusal.ManifestRefusal.TheVariants.{MovedId, LatePrev}
use Rattle.esc_manifest.specs.declared.refusal.ManifestRefusal.TheVariants.{RepeatedDigest}
use Rattle.esc_manifest.specs.Codes.{manifest_number}

-- the refusals in the order of their numbers
refusals : List ManifestRefusal
refusals =
    OverLimit ∷ NotSixFields ∷ WrongHeading ∷ WrongId ∷ WrongType ∷ WrongWatermark ∷ MissingPrev ∷
    WrongResend ∷ WrongDigest ∷ RepeatedRevision ∷ MovedId ∷ LatePrev ∷ RepeatedDigest ∷ []

-- the refusal with a number
abbrev numbered : ℕ → ManifestRefusal
numbered n = get_or refusals (n - 1) OverLimit

numbered_again : (r : ManifestRefusal) → numbered (manifest_number r) ≡ r
unfolding refusals
numbered_again OverLimit = refl
numbered_again NotSixFields = refl
numbered_again WrongHeading = refl
numbered_again WrongId = refl
numbered_again WrongType = refl
numbered_again WrongWatermark = refl
numbered_again MissingPrev = refl
numbered_again WrongResend = refl
numbered_again WrongDigest = refl
numbered_again RepeatedRevision = refl
numbered_again MovedId = refl
numbered_again LatePrev = refl
numbered_again RepeatedDigest = refl

-- each number is that of one refusal
pub one_manifest_refusal : (r s : ManifestRefusal) → manifest_number r ≡ manifest_number s → r ≡ s
one_manifest_refusal r s same = sym (numbered_again r) ∙ ap numbered same ∙ numbered_again s
