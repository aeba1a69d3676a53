-- The text of an acceptance.
use Rattle.std.specs.Prelude.{◌≡◌, ℕ, List, [], ◌∷◌, ◌++◌, map, Bool, true, false, codes}
use Rattle.std.specs.Prelude.{string_bytes}
use Rattle.std.specs.List.{flat_map}
use Rattle.esc_acceptance.specs.declared.line.Line.{Line}
use Rattle.esc_acceptance.specs.declared.test.Test.{Test}
use Rattle.esc_acceptance.specs.Acceptance.{SeenValue, passes, tests, is_told_alone, test_name}

-- the word of a test that fails: `told` where a registry may be taken over all the same
abbrev pub failure_word : Bool → List ℕ
failure_word true = codes "told"
failure_word false = codes "wrong"

-- the word of a test: `ok` where it passes
abbrev pub word : Test → Bool → List ℕ
word t true = codes "ok"
word t false = failure_word (is_told_alone t)

-- what was found, after a colon; nothing where nothing was
abbrev pub detail_text : List ℕ → List ℕ
detail_text [] = []
detail_text (b ∷ bs) = codes ": " ++ b ∷ bs

-- a line: its test's word and name, and what was found
abbrev pub test_line : Line → List ℕ
test_line l = word l.test l.has_passed ++ codes " " ++ test_name l.test
    ++ detail_text (string_bytes l.detail) ++ codes "\n"

-- the line of a note
abbrev pub note_text : List ℕ → List ℕ
note_text note = codes "told note: " ++ note ++ codes "\n"

-- these are the lines of what was seen: one for each test, in order, that says whether it passes
pub record AreLinesOf (s : SeenValue) (lines : List Line) : Type 0 where
  pub in_order : map (λ (l : Line). l.test) lines ≡ tests
  pub passed : map (λ (l : Line). l.has_passed) lines ≡ map (λ t. passes t s) tests

-- the text has these lines, and after them one for each note
abbrev pub IsTextOf : SeenValue → List ℕ → Type 0
IsTextOf s text = (lines : List Line) × AreLinesOf s lines
    × (text ≡ flat_map test_line lines ++ flat_map note_text s.notes)
