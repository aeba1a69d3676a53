-- The document's numbers of the refusals, and how a fault is printed.
use Rattle.std.specs.Prelude.{ℕ, List, ◌∷◌, codes}
use Rattle.std.specs.Fmt.{decimal}
use Rattle.esc_bundle.specs.declared.refusal.Refusal.{Refusal}
use Rattle.esc_bundle.specs.declared.refusal.Refusal.TheVariants.{BrokenFrame, WrongName}
use Rattle.esc_bundle.specs.declared.refusal.Refusal.TheVariants.{RepeatedName, OverLimit, NotJson}
use Rattle.esc_bundle.specs.declared.refusal.Refusal.TheVariants.{WrongMember, WrongTable}
use Rattle.esc_bundle.specs.declared.refusal.Refusal.TheVariants.{WrongFiles, BrokenRow, WrongKey}
use Rattle.esc_bundle.specs.declared.refusal.Refusal.TheVariants.{TooManyRows}
use Rattle.esc_bundle.specs.declared.fault.Fault.{Fault}
use Rattle.esc_bundle.specs.declared.fault.Fault.TheVariants.{Refused, NoMemory}

-- the number of a refusal; of several refusals that apply, the one with the least is returned
abbrev pub refusal_number : Refusal → ℕ
refusal_number BrokenFrame = 1
refusal_number WrongName = 2
refusal_number RepeatedName = 3
refusal_number OverLimit = 4
refusal_number NotJson = 5
refusal_number WrongMember = 6
refusal_number WrongTable = 7
refusal_number WrongFiles = 8
refusal_number BrokenRow = 9
refusal_number WrongKey = 10
refusal_number TooManyRows = 11

-- the code of a refusal: `U` and its number
abbrev pub refusal_code : Refusal → List ℕ
refusal_code refusal = 85 ∷ decimal (refusal_number refusal)

-- the text of a fault: the code of a refusal, or the words for out of memory
abbrev pub fault_text : Fault → List ℕ
fault_text (Refused refusal) = refusal_code refusal
fault_text NoMemory = codes "out of memory"
