use Rattle.std.proofs.Common.{refl, sym, ◌∙◌}
use Rattle.std.specs.Cmp.Lexicographic.{slice_cmp}
use Rattle.std.specs.Ordering.{nat_cmp}
use Rattle.std.proofs.lemmas.Map.Text.{is_eq-slice_cmp}
use Rattle.std.proofs.lemmas.Slice.Eq.{bytes_eq-Decides}
use Rattle.std.proofs.lemmas.Bool.{not-true}
use Rattle.esc_manifest.specs.RowFaults.{same_digest}
use Rattle.esc_manifest.proofs.Keys.{one_more, all_apart}
use Rattle.esc_manifest.proofs.RowTests.{same_digest-Decides}
use Rattle.esc_manifest.proofs.apart.have_own_digests.Goals as goal

pub loop-row-preserved : goal.loop-row-preserved
loop-row-preserved c =
    one_more (slice_cmp nat_cmp) (λ r. r.digest) same_digest (λ q r. (same_digest-Decides q r).0)
    (λ k. is_eq-slice_cmp k k ∙ (bytes_eq-Decides k k).1 refl)
    c.args.rows.now c.loop-row.row-index c.row-item.result c.row-item.result.digest
    c.loop-row.seen c.insert.new.self c.loop-row-test.true c.row-item.is refl
    (not-true _ (sym c.in_ok-insert.ensures.added ∙ c.if-not-branch.false))
    c.in_ok-insert.ensures.updates c.loop-row.invariant

pub returns : goal.returns
returns c = λ own. all_apart (slice_cmp nat_cmp) (λ r. r.digest) same_digest
    c.args.rows.now c.loop-row.row-index c.loop-row.seen c.loop-row-test.false c.loop-row.invariant
