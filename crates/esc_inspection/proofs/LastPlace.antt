-- The place of a chain's last row, from its steps.
use Rattle.std.proofs.Common.{◌≡◌, ℕ, ◌-◌, List, length, map, slice_get, Option, None, Some, refl, ap, ◌∙◌}
use Rattle.std.specs.Prelude.{option_map}
use Rattle.std.proofs.lemmas.Option.{slice_get-map}
use Rattle.std.proofs.lemmas.List.{length-map}
use Rattle.esc_envelope.specs.declared.place.Place.{Place}
use Rattle.esc_manifest.specs.declared.row.MRow.{MRow}
use Rattle.esc_manifest.specs.ManifestRows.{place_at}
use Rattle.esc_apply.specs.declared.front.Step.{Step}
use Rattle.esc_store.specs.StoreState.{step_at}
use Rattle.esc_desk.specs.Reads.{last}

-- the last element of an image
last_mapped : {X Y : Type 0} (f : X → Y) (xs : List X) → last (map f xs) ≡ option_map f (last xs)
last_mapped f xs = ap (λ (n : ℕ). slice_get (map f xs) (n - 1)) (length-map xs f)
    ∙ slice_get-map f xs (length xs - 1)

-- a status has the place and the resend of the last step: the place is that of the last row
pub last_place : (m : List MRow) (rows : List ℕ) → option_map (λ (p : Place × ℕ). p.0)
    (option_map (λ (s : Step). (s.place, s.resend)) (last (map (step_at m) rows)))
    ≡ option_map (place_at m) (last rows)
last_place m rows = ap (λ (o : Option Step). option_map (λ (p : Place × ℕ). p.0)
    (option_map (λ (s : Step). (s.place, s.resend)) o)) (last_mapped (step_at m) rows) ∙ back (last rows)
  where
    back : (o : Option ℕ) → option_map (λ (p : Place × ℕ). p.0) (option_map (λ (s : Step). (s.place, s.resend))
        (option_map (step_at m) o)) ≡ option_map (place_at m) o
    back None = refl
    back (Some r) = refl
