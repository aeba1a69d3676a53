-- What a text is refused for, read from the front.
use Rattle.std.specs.Prelude.{◌≡◌, ◌≢◌, ◌⊎◌, ◌<◌, ◌≤◌, ◌+◌, ℕ, List, [], ◌∷◌}
use Rattle.std.specs.Prelude.{◌++◌, length, take}
use Rattle.std.specs.Prelude.{drop, ◌==◌, ◌&&◌, ◌||◌, not, nat_lt, nat_le, slice_index, nat_eq}
use Rattle.std.specs.Prelude.{if◌then◌else◌, Option, Some, None, option_map, Result, Ok, Err}
use Rattle.std.specs.List.{list_any, starts_with}
use Rattle.std.specs.Str.{bytes_eq}
use Rattle.std.specs.Str.Parse.{digits_value}
use Rattle.esc_bundle.specs.declared.refusal.Refusal.{Refusal}
use Rattle.esc_bundle.specs.declared.refusal.Refusal.TheVariants.{BrokenFrame, WrongName}
use Rattle.esc_bundle.specs.declared.refusal.Refusal.TheVariants.{RepeatedName, OverLimit}
use Rattle.esc_bundle.specs.Bundle.{Named, limit, first_line, last_line, envelope_name, is_name}
use Rattle.esc_bundle.specs.Bundle.{is_length, AreSections, beginning_text}
use Rattle.esc_bundle.specs.Tests.{◌>>=◌, check, or_fault}

-- the bytes before and after the first c, if there is one
abbrev pub parted : ℕ → List ℕ → Option (List ℕ × List ℕ)
parted c [] = None
parted c (b ∷ bs) = if b == c then Some ([], bs) else option_map (λ p. (b ∷ p.0, p.1)) (parted c bs)

-- a section of this name and length may come after these. Tested in this order: the name has its
-- form (else U2); no earlier section has it (U3); there is room for one more section, and for its
-- bytes (U4); the first section is the envelope (U1)
unfoldable pub stands_at : List Named → List ℕ → ℕ → Result (Unit {0}) Refusal
stands_at before name size = do
  named ← check (is_name name) WrongName
  new ← check (not (list_any (λ s. bytes_eq s.name name) before)) RepeatedName
  room ← check (nat_lt (length before) 64 && nat_le size limit) OverLimit
  check (not (length before == 0) || bytes_eq name envelope_name) BrokenFrame

-- the length in a section's line, if the section may come after these
unfoldable pub length_at : List Named → List ℕ → List ℕ → Result ℕ Refusal
length_at before name size = do
  form ← check (is_length size) BrokenFrame
  stands ← stands_at before name (digits_value 10 size)
  Ok (digits_value 10 size)

-- the section at the front of the rest, and what follows it
unfoldable pub section_at : List Named → List ℕ → Result (Named × List ℕ) Refusal
section_at before rest = do
  line ← or_fault BrokenFrame (parted 10 rest)
  words ← or_fault BrokenFrame (parted 32 line.0)
  size ← length_at before words.0 words.1
  ends ← check (nat_lt size (length line.1) && (slice_index line.1 size == 10)) BrokenFrame
  Ok (record { name = words.0; bytes = take size line.1 }, drop (size + 1) line.1)

-- the last line is here: nothing may come after it, and at least one section has to come before it
unfoldable pub end_at : List Named → List ℕ → Result (Option (Named × List ℕ)) Refusal
end_at before rest = do
  last ← check ((length rest == 4) && nat_lt 0 (length before)) BrokenFrame
  Ok None

-- what comes after these sections: the end of the bundle, or one more section and what comes after
-- it
unfoldable pub next_at : List Named → List ℕ → Result (Option (Named × List ℕ)) Refusal
next_at before rest = if starts_with nat_eq rest last_line then end_at before rest else
    (section_at before rest >>= λ next. Ok (Some next))

-- the text begins with the first line and some sections in order, and has this fault after them
pub record FaultBehind (body : List ℕ) (why : Refusal) : Type 0 where
  pub before : List Named
  pub rest : List ℕ
  pub text : body ≡ beginning_text before ++ rest
  pub sections : AreSections before
  pub fault : next_at before rest ≡ Err why

-- a text is refused: with U4 for its length, with U1 for its first line, or else with the fault of
-- what comes after the sections that it begins with
abbrev pub IsFault : List ℕ → Refusal → Type 0
IsFault body why = ((limit < length body) × (why ≡ OverLimit))
    ⊎ ((length body ≤ limit) × ((rest : List ℕ) → body ≢ first_line ++ rest) × (why ≡ BrokenFrame))
    ⊎ ((length body ≤ limit) × FaultBehind body why)
