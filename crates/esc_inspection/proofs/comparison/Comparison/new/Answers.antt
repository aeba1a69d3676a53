use Rattle.esc_inspection.proofs.ComparedDeposits.{nothing_yet}
use Rattle.esc_inspection.proofs.comparison.Comparison.new.Goals as goal

pub returns : goal.returns
returns c = λ es many.
    nothing_yet es c.args.count _ many (c.in_ok-vec.ensures.items_if_clones_equal (λ y is. is)) c.new.ensures.empty
