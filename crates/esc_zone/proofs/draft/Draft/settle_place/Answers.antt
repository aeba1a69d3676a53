use Rattle.std.proofs.Common.{List, ℕ, subst}
use Rattle.std.specs.Prelude.{◌↔◌, IsTrue}
use Rattle.esc_zone.specs.Noted.{draft_notes, IsServedPlace}
use Rattle.esc_zone.proofs.Settled.{said_noted}
use Rattle.esc_zone.proofs.draft.Draft.settle_place.Goals as goal

pub returns : goal.returns
returns c =
    let d = draft_notes c.args.self.now in (
      c.is_served-is_cut.result,
      c.set_cut.ensures,
      λ p e. subst (λ (f : List ℕ → List (List ℕ)). IsTrue c.is_served-is_cut.result ↔ IsServedPlace d.is_given f p)
          (said_noted c.args.self.now) (c.is_served-is_cut.ensures p e),
    )
