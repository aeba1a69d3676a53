use Rattle.std.proofs.Common.{sym}
use Rattle.esc_manifest.proofs.Places.{ids_stay}
use Rattle.esc_manifest.proofs.apart.id_in_two_places.Goals as goal

pub returns-in-Some-clause-first : goal.returns-in-Some-clause-first
returns-in-Some-clause-first c = sym (ids_stay c.args.rows.now c.in-Some.field-0 (rw c.in-Some.is at c.requires))
