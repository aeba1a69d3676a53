use Rattle.std.proofs.Common.{◌∙◌}
use Rattle.esc_acceptance.specs.Guides.{guides}
use Rattle.esc_acceptance.proofs.coverage.Coverage.new.Goals as goal

pub returns : goal.returns
unfolding guides
returns c = record { common = c.in_ok-from_slice.ensures.items ∙ c.all_guides.ensures }
