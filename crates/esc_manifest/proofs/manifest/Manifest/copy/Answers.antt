use Rattle.std.proofs.Common.{sym, subst, ◌∙◌}
use Rattle.esc_manifest.specs.Accepted.{IsAccepted}
use Rattle.esc_manifest.proofs.manifest.Manifest.copy.Goals as goal

pub of_accepted-requires : goal.of_accepted-requires
of_accepted-requires c = subst IsAccepted (sym (c.in_ok-rows.ensures ∙ c.rows.ensures.rows)) c.rows.ensures.accepted
