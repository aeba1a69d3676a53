use Rattle.esc_zone.specs.Noted.{draft_notes}
use Rattle.esc_zone.proofs.Settled.{mirrors_none, mirrors_step}
use Rattle.esc_zone.proofs.draft.Draft.settle_mirrored.Goals as goal

pub loop-name-init : goal.loop-name-init
loop-name-init c = mirrors_none (draft_notes c.args.self.now)

pub loop-name-preserved : goal.loop-name-preserved
loop-name-preserved c =
    mirrors_step c.args.names.now c.loop-name.name-index c.name-item.result (draft_notes c.args.self.now)
    (draft_notes c.loop-name.self) (draft_notes c.settle_mirror.new.self) c.loop-name-test.true c.name-item.is
    c.loop-name.invariant c.settle_mirror.ensures
