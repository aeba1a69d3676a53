use Rattle.std.proofs.Common.{sym, ◌∙◌, ap, List, Bool}
use Rattle.std.specs.List.{list_all}
use Rattle.esc_inspection.proofs.ComparedBodies.{bodies_make}
use Rattle.esc_inspection.proofs.comparison.Comparison.is_complete.Goals as goal

pub returns-then-self : goal.returns-then-self
returns-then-self k = λ is bodies es are. bodies_make es bodies k.args.self.now k.if-self.true
    (ap (λ (bs : List Bool). list_all (λ b. b) bs) (sym k.deref.ensures.value) ∙ sym k.are_all.ensures ∙ is) are
