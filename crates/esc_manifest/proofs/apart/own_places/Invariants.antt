use Rattle.esc_manifest.proofs.Places.{HaveOwnPlaces}
use Rattle.esc_manifest.proofs.apart.own_places.Given as goal

abbrev pub invariant-loop-row : goal.invariant-loop-row
invariant-loop-row l = HaveOwnPlaces l.rows l.row-index l.places
