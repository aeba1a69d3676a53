-- The bundle of a list of sections, or the fault for which there is none, as a function.
use Rattle.std.specs.Prelude.{◌≡◌, ◌⊎◌, ◌<◌, ℕ, List, [], ◌∷◌, ◌++◌, length, nat_lt}
use Rattle.std.specs.Prelude.{nat_le, String}
use Rattle.std.specs.Prelude.{string_bytes, Result, Ok, Err}
use Rattle.std.specs.Global.{Vec}
use Rattle.std.specs.declared.alloc.Global.{Global}
use Rattle.esc_bundle.specs.declared.refusal.Refusal.{Refusal}
use Rattle.esc_bundle.specs.declared.refusal.Refusal.TheVariants.{BrokenFrame, OverLimit}
use Rattle.esc_bundle.specs.Bundle.{Named, limit, bundle_text, AreSections}
use Rattle.esc_bundle.specs.Tests.{◌>>=◌, check}
use Rattle.esc_bundle.specs.Reading.{stands_at}

-- a name and bytes, as a section
abbrev pub named : String Global × Vec ℕ → Named
named p = record { name = string_bytes p.0; bytes = p.1.items }

-- these sections, and then the others, where each of the others may come after those before it
unfoldable pub in_order : List Named → List Named → Result (List Named) Refusal
in_order before [] = Ok before
in_order before (s ∷ ss) = stands_at before s.name (length s.bytes) >>= λ stands.
    in_order (before ++ (s ∷ [])) ss

-- the text, if it is no longer than a bundle may be
unfoldable pub within_limit : List ℕ → Result (List ℕ) Refusal
within_limit text = check (nat_le (length text) limit) OverLimit >>= λ fits. Ok text

-- the one text of these sections. Tested in this order: there is a section (else U1); each
-- section may come after those before it (U1 to U4); the whole is not too long (U4)
unfoldable pub bundle_of : List Named → Result (List ℕ) Refusal
bundle_of ss = do
  some ← check (nat_lt 0 (length ss)) BrokenFrame
  sections ← in_order [] ss
  within_limit (bundle_text sections)

-- the first section that may not come after those before it, and why
pub record FaultAmong (ss : List Named) (why : Refusal) : Type 0 where
  pub before : List Named
  pub section : Named
  pub after : List Named
  pub list : ss ≡ before ++ (section ∷ after)
  pub sections : AreSections before
  pub fault : stands_at before section.name (length section.bytes) ≡ Err why

-- no bundle has these sections, for this fault: there is none (U1), or one of them may not come
-- after those before it, or the whole is too long (U4)
abbrev pub IsUnwritten : List Named → Refusal → Type 0
IsUnwritten ss why =
    ((length ss ≡ 0) × (why ≡ BrokenFrame))
    ⊎ FaultAmong ss why
    ⊎ (AreSections ss × (0 < length ss) × (limit < length (bundle_text ss)) × (why ≡ OverLimit))
