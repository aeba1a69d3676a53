-- A text whose control characters are spaces, with a line end after it, is one line.
use Rattle.std.proofs.Common.{◌≡◌, ℕ, List, [], ◌∷◌, ◌++◌, map, true, Option, Some, None, refl, ap}
use Rattle.std.proofs.Common.{◌∙◌, append_assoc, arith}
use Rattle.std.specs.Prelude.{◌==◌, not, codes}
use Rattle.std.proofs.lemmas.Bool.Decides.{nat_tests}
use Rattle.std.specs.List.{list_all}
use Rattle.std.specs.Io.KnownBytes.{Appends}
use Rattle.esc_cli.specs.Why.{IsLine, shown}

never_ends : (byte : ℕ) → not (shown byte == 10) ≡ true
never_ends byte = grind (arith, nat_tests)

all_shown : (text : List ℕ) → list_all (λ byte. not (byte == 10)) (map shown text) ≡ true
all_shown [] = refl
all_shown (byte ∷ rest) = rw (never_ends byte, all_shown rest) refl

-- a text without control characters, and its line end, is one line
pub shown_line : (text shown_bytes line : List ℕ)
    → shown_bytes ≡ map shown text → line ≡ shown_bytes ++ 10 ∷ [] → IsLine line
shown_line text shown_bytes line is_shown ends = (map shown text, rw (ends, is_shown) refl, all_shown text)

-- the line where there is no memory is one line
pub unsaid_line : IsLine (codes "why: memory was refused\n")
unsaid_line = (codes "why: memory was refused", refl, refl)

-- known bytes that grow by some, and then by others, grow by both
pub grown_twice : (a b c : Option (List ℕ)) (x y : List ℕ)
    → Appends a b x → Appends b c y → Appends a c (x ++ y)
grown_twice None b c x y first next = tt
grown_twice (Some p) None c x y first next = absurd first
grown_twice (Some p) (Some q) None x y first next = absurd next
grown_twice (Some p) (Some q) (Some r) x y first next =
    next ∙ ap (λ (l : List ℕ). l ++ y) first ∙ append_assoc p x y
