use Rattle.std.proofs.Common.{◌≡◌, not, filter, take, List}
use Rattle.std.specs.List.{list_all}
use Rattle.esc_apply.specs.ObjectStreams.{Entry}
use Rattle.esc_acceptance.specs.Guides.{guides, has_guide, IsCoverageOf}
use Rattle.esc_acceptance.proofs.coverage.Coverage.lacking.Given as goal

-- those so far that some object lacks
abbrev pub invariant-loop-guide : goal.invariant-loop-guide
invariant-loop-guide l = (es : List Entry) → IsCoverageOf es l.self
    → l.lacking.items ≡ filter (λ g. not (list_all (has_guide g) es)) (take l.guide-index guides)
