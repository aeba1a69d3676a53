use Rattle.std.proofs.Common.{◌∙◌, ap, refl, List, ℕ}
use Rattle.esc_zone.specs.Noted.{DraftNotes, draft_notes, settled_among}
use Rattle.esc_zone.proofs.Noting.{settled_all}
use Rattle.esc_zone.proofs.draft.Draft.settle_servers.Goals as goal

pub returns : goal.returns
returns c =
    let d : DraftNotes = draft_notes c.args.self.now in
    c.in_ok-settle_named.ensures
    ∙ ap (λ (l : List (List ℕ)). settled_among l d) (c.deref.ensures.value ∙ c.in_ok-names.ensures)
    ∙ settled_all d c.args.self.now.servers refl
