use Rattle.std.proofs.Common.{◌∙◌, ◌∷◌, ap, subst, List, Option, ℕ}
use Rattle.esc_acceptance.specs.Chains.{AreFactsOf, deposits_in}
use Rattle.esc_inspection.proofs.chain_bodies.read_body.Goals as goal

pub returns-clause-facts : goal.returns-clause-facts
returns-clause-facts g c = λ honest e h apart later had.
    subst (λ (b : Option (List ℕ)). AreFactsOf (b ∷ later) c.add_earlier.new.self)
    (c.as_deref.ensures.value ∙ c.in_ok-body.ensures.body honest e h apart) (c.in_ok-deposit.ensures.facts later had)

pub returns-clause-deposit : goal.returns-clause-deposit
returns-clause-deposit g c = λ honest e h apart.
    c.in_ok-deposit.ensures.deposit
    ∙ ap deposits_in (c.as_deref.ensures.value ∙ c.in_ok-body.ensures.body honest e h apart)
