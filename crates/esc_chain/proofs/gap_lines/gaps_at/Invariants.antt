use Rattle.std.proofs.Common.{◌≡◌, ◌++◌, ℤ, length, Option, Some}
use Rattle.std.specs.List.{All}
use Rattle.std.specs.Map.{keys_of}
use Rattle.esc_chain.specs.Gap.{IsGapLineAt, places_of}
use Rattle.esc_chain.specs.Stops.{IsUnheldEntry, AreWays}
use Rattle.esc_chain.proofs.PlaceMaps.{place_cmp}
use Rattle.esc_chain.proofs.gap_lines.gaps_at.Given as goal

abbrev pub invariant-loop-place : goal.invariant-loop-place
invariant-loop-place l = record {
  told : (t : Option ℤ) → AreWays place_cmp l.manifest l.held t l.ways
      → All (IsGapLineAt l.manifest l.held t) l.lines.items;
  entries : All (λ e. IsUnheldEntry l.manifest l.held e.0 (length l.manifest) (Some e.1)) l.place-iterator;
  in_order : places_of l.lines.items ++ keys_of l.place-iterator ≡ keys_of l.initial.place-iterator;
}
