use Rattle.std.proofs.Common.{sym}
use Rattle.esc_manifest.proofs.Places.{names_are_earlier}
use Rattle.esc_manifest.proofs.apart.after_later.Goals as goal

pub returns-in-Some-clause-first : goal.returns-in-Some-clause-first
returns-in-Some-clause-first c = sym (names_are_earlier
    c.args.rows.now c.in-Some.places (rw c.in-Some.is at c.requires) (sym c.if-name_earlier.ensures))
