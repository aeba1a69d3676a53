use Rattle.std.proofs.Common.{◌∙◌, ap, List, ℕ}
use Rattle.esc_zone.specs.Noted.{place_notes, is_among_names}
use Rattle.esc_zone.proofs.Settled.{among_seen}
use Rattle.esc_zone.proofs.draft.Draft.settle_mirrors.Goals as goal

pub returns : goal.returns
returns c =
    let m = c.args.self.now.places in
    let all = c.settle_mirrored.ensures in
    let names = c.deref.ensures.value ∙ c.in_ok-names.ensures in (
      all.0,
      all.1,
      λ q p e. (
        (all.2 q p e).0,
        (all.2 q p e).1 (ap (λ (l : List (List ℕ)). is_among_names l q) names
            ∙ among_seen place_notes m q p e),
      ),
    )
