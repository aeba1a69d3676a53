use Rattle.std.proofs.Common.{rules}
use Rattle.std.proofs.lemmas.Fn.{filter_same}
use Rattle.esc_acceptance.specs.declared.guide.Guide.{Guide}
use Rattle.esc_acceptance.specs.Guides.{has_guide}
use Rattle.esc_apply.specs.ObjectStreams.{Entry}
use Rattle.esc_acceptance.proofs.Covered.{covered_more}
use Rattle.esc_acceptance.proofs.coverage.Coverage.add.Goals as goal

pub returns : goal.returns
returns c = λ es had.
    let e : Entry = (c.args.key.now, c.args.object.now) in
    covered_more es e c.args.self.now _ had
    (filter_same _ (λ (g : Guide). has_guide g e) _ (λ g b f k. search rules) _ _ c.retain.ensures.filtered)
