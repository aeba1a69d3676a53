-- Laws of the refusals' numbers.
use Rattle.std.proofs.Common.{◌≡◌, ◌∙◌, ℕ, ◌≤◌, ◌-◌, List, [], ◌∷◌, get_or, refl, sym}
use Rattle.std.proofs.Common.{ap, arith}
use Rattle.esc_bundle.specs.declared.refusal.Refusal.{Refusal}
use Rattle.esc_bundle.specs.declared.refusal.Refusal.TheVariants.{BrokenFrame, WrongName}
use Rattle.esc_bundle.specs.declared.refusal.Refusal.TheVariants.{RepeatedName, OverLimit, NotJson}
use Rattle.esc_bundle.specs.declared.refusal.Refusal.TheVariants.{WrongMember, WrongTable}
use Rattle.esc_bundle.specs.declared.refusal.Refusal.TheVariants.{WrongFiles, BrokenRow, WrongKey}
use Rattle.esc_bundle.specs.declared.refusal.Refusal.TheVariants.{TooManyRows}
use Rattle.esc_bundle.specs.Codes.{refusal_number}

-- the refusals in the order of their numbers
refusals : List Refusal
refusals =
    BrokenFrame ∷ WrongName ∷ RepeatedName ∷ OverLimit ∷ NotJson ∷ WrongMember ∷ WrongTable ∷
    WrongFiles ∷ BrokenRow ∷ WrongKey ∷ TooManyRows ∷ []

-- the refusal with a number
abbrev numbered : ℕ → Refusal
numbered n = get_or refusals (n - 1) BrokenFrame

numbered_again : (r : Refusal) → numbered (refusal_number r) ≡ r
unfolding refusals
numbered_again BrokenFrame = refl
numbered_again WrongName = refl
numbered_again RepeatedName = refl
numbered_again OverLimit = refl
numbered_again NotJson = refl
numbered_again WrongMember = refl
numbered_again WrongTable = refl
numbered_again WrongFiles = refl
numbered_again BrokenRow = refl
numbered_again WrongKey = refl
numbered_again TooManyRows = refl

-- two refusals, each with a number that is at most that of the other, are the same
pub one_refusal : (r s : Refusal) → refusal_number r ≤ refusal_number s
    → refusal_number s ≤ refusal_number r → r ≡ s
one_refusal r s below above =
    let same : refusal_number r ≡ refusal_number s = omega arith in
    sym (numbered_again r) ∙ ap numbered same ∙ numbered_again s
