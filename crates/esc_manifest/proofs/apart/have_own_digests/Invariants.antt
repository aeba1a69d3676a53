use Rattle.std.specs.Cmp.Lexicographic.{slice_cmp}
use Rattle.std.specs.Ordering.{nat_cmp}
use Rattle.esc_manifest.specs.RowFaults.{same_digest}
use Rattle.esc_manifest.proofs.Keys.{AreApart}
use Rattle.esc_manifest.proofs.apart.have_own_digests.Given as goal

abbrev pub invariant-loop-row : goal.invariant-loop-row
invariant-loop-row l = AreApart (slice_cmp nat_cmp) (λ r. r.digest) same_digest l.rows l.row-index l.seen
