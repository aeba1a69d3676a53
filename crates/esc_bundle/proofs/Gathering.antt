-- The sections that are found one by one.
use Rattle.std.proofs.Common.{◌≡◌, ℕ, suc, ◌-◌, ◌<◌, ◌≤◌, List, [], ◌∷◌, ◌++◌, length}
use Rattle.std.proofs.Common.{Ok, Err, refl, sym, subst, ◌∙◌, arith}
use Rattle.std.proofs.lemmas.List.{map_push, length-map, length_push}
use Rattle.esc_bundle.specs.declared.refusal.Refusal.{Refusal}
use Rattle.esc_bundle.specs.declared.section.Section.{Section}
use Rattle.esc_bundle.specs.declared.fault.Fault.{Fault}
use Rattle.esc_bundle.specs.declared.fault.Fault.TheVariants.{Refused}
use Rattle.esc_bundle.specs.Bundle.{Named, view, views}
use Rattle.esc_bundle.specs.Tests.{Refuses}
use Rattle.esc_bundle.specs.Reading.{next_at}
use Rattle.esc_bundle.specs.Frame.{frame_after}
use Rattle.esc_bundle.proofs.OneReading.{more_of, no_more}
use Rattle.esc_bundle.proofs.Frames.{frame_at_end, frame_at_section, frame_at_fault, next_has_room}

-- what is found so far and what the rest gives are what the text gives
pub record Gathered (text : List ℕ) (found : List Section) (rest : List ℕ) : Type 0 where
  pub few : length found ≤ 64
  pub left : frame_after (65 - length found) (views found) rest ≡ frame_after 65 [] text

at_step : (text : List ℕ) (found : List Section) (rest : List ℕ) → Gathered text found rest
    → frame_after (suc (64 - length found)) (views found) rest ≡ frame_after 65 [] text
at_step text found rest g = let few = g.few in
    let steps : 65 - length found ≡ suc (64 - length found) = omega arith in
    subst (λ (k : ℕ). frame_after k (views found) rest ≡ frame_after 65 [] text) steps g.left

-- at the end all sections are gathered
pub gathered_all : (text : List ℕ) (found : List Section) (rest : List ℕ) → Gathered text found rest
    → next_at (views found) rest ≡ no_more → frame_after 65 [] text ≡ Ok (views found)
gathered_all text found rest g next =
    sym (at_step text found rest g) ∙ frame_at_end (64 - length found) (views found) rest next

-- a refusal on the way is that of the text
pub gathered_refused : (text : List ℕ) (found : List Section) (rest : List ℕ) (e : Fault) (n : Refusal)
    → Gathered text found rest
    → Refuses e (next_at (views found) rest) → e ≡ Refused n → frame_after 65 [] text ≡ Err n
gathered_refused text found rest e n g refused is =
    let next : next_at (views found) rest ≡ Err n =
    subst (λ (f : Fault). Refuses f (next_at (views found) rest)) is refused in
    sym (at_step text found rest g) ∙ frame_at_fault (64 - length found) (views found) rest n next

room : (found : List Section) (rest : List ℕ) (s : Section) (after : List ℕ)
    → next_at (views found) rest ≡ more_of (view s, after) → length found < 64
room found rest s after next = let below : length (views found) < 64 =
    next_has_room (views found) rest (view s, after) next in simp length-map at below

-- one more section is gathered
pub gathered_more : (text : List ℕ)
    (found : List Section) (rest : List ℕ) (s : Section) (after : List ℕ) → Gathered text found rest
    → next_at (views found) rest ≡ more_of (view s, after) → Gathered text (found ++ (s ∷ [])) after
gathered_more text found rest s after g next =
    let below = room found rest s after next in
    let pushed = length_push found s in
    let steps : 64 - length found ≡ 65 - length (found ++ (s ∷ [])) = omega arith in
    let more : views found ++ (view s ∷ []) ≡ views (found ++ (s ∷ [])) = sym (map_push view found s) in
    let left : frame_after (64 - length found) (views found ++ (view s ∷ [])) after ≡ frame_after
    65 [] text = sym (frame_at_section (64 - length found) (views found) rest (view s, after) next)
    ∙ at_step text found rest g in
    record {
      few = omega arith;
      left = subst (λ (k : ℕ). frame_after k (views (found ++ (s ∷ []))) after ≡ frame_after 65 [] text)
          steps (subst (λ (ss : List Named). frame_after (64 - length found) ss after
          ≡ frame_after 65 [] text) more left);
    }

-- at the start none is gathered
pub gathered_none : (text : List ℕ) → Gathered text [] text
gathered_none text = record { few = omega arith; left = refl }
