use Rattle.esc_manifest.specs.RowFaults.{same_revision}
use Rattle.esc_manifest.proofs.Keys.{AreApart}
use Rattle.esc_manifest.proofs.RevisionKeys.{revision_cmp, revision_of}
use Rattle.esc_manifest.proofs.apart.have_own_revisions.Given as goal

abbrev pub invariant-loop-row : goal.invariant-loop-row
invariant-loop-row l = AreApart revision_cmp revision_of same_revision l.rows l.row-index l.seen
