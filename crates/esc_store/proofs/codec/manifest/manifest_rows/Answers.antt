use Rattle.esc_store.proofs.Common.{◌∙◌, ap, arith, take_all, listed_row}
use Rattle.esc_store.proofs.Manifests.{one_row, listed_size}
use Rattle.esc_store.proofs.codec.manifest.manifest_rows.Goals as goal

pub loop-at-preserved : goal.loop-at-preserved
loop-at-preserved c = λ rs e. c.in_ok-push.ensures.items
    ∙ one_row _ rs _ _ _ _ e c.loop-at-test.true (c.loop-at.invariant rs e)
    (λ n r h. c.in_ok-row.ensures.row n r (ap listed_row c.index-stored-at.is ∙ h))

pub returns-clause-rows : goal.returns-clause-rows
returns-clause-rows c = λ rs e. c.loop-at.invariant rs e
    ∙ take_all c.loop-at.at rs (omega (arith, listed_size c.args.stored.now rs e))
