use Rattle.std.proofs.Common.{Bool, true, false, refl}
use Rattle.esc_zone.specs.Noted.{draft_notes}
use Rattle.esc_zone.proofs.Said.{false_is}
use Rattle.esc_zone.proofs.Settled.{cuts_none}
use Rattle.esc_zone.proofs.draft.Draft.settle_mirror.Goals as goal

pub returns-else-is_mirrored : goal.returns-else-is_mirrored
returns-else-is_mirrored c = (
  false,
  cuts_none (draft_notes c.args.self.now),
  λ p e. (
    λ t. absurd (cc t),
    λ x. absurd (false_is _ c.if-is_mirrored.false ((c.is_mirrored.ensures p e).1 x)),
  ),
)

pub returns-then-is_mirrored : goal.returns-then-is_mirrored
returns-then-is_mirrored c = (
  true,
  c.set_cut.ensures,
  λ p e. (λ t. (c.is_mirrored.ensures p e).0 c.if-is_mirrored.true, λ x. refl),
)
