use Rattle.std.proofs.Common.{◌++◌, ◌∷◌, [], ap, subst, ◌∙◌}
use Rattle.std.proofs.lemmas.Result.{IfOk-at_ok}
use Rattle.esc_tables.specs.DepositValue.{DepositValue}
use Rattle.esc_apply.specs.Images.{chain_state}
use Rattle.esc_apply.specs.Tables.{mention_count}
use Rattle.esc_store.specs.Representation.{HasMadeTables}
use Rattle.esc_store.specs.ResultLaws.{if_ok}
use Rattle.esc_store.specs.StandingLaws.{was_clean}
use Rattle.esc_desk.proofs.moves.apply_row.Goals as goal

pub returns-clause-number : goal.returns-clause-number
returns-clause-number g c = if_ok c.apply_next.result _ (λ n is clean before k hand rest.
    let mid = was_clean c.apply_next.ensures.follows.goes_on.survives clean in
    IfOk-at_ok _ is c.apply_next.ensures.number
    ∙ ap mention_count (c.in_ok-deposit.ensures.found mid before k hand rest))

pub returns-clause-applied : goal.returns-clause-applied
returns-clause-applied g c = if_ok c.apply_next.result _ (λ n is clean before k held at hand rest stood.
    let mid = was_clean c.apply_next.ensures.follows.goes_on.survives clean in
    subst (λ (d : DepositValue). HasMadeTables g.S.Store c.apply_next.new.registry
    (chain_state (held ++ d ∷ []))) (c.in_ok-deposit.ensures.found mid before k hand rest)
    (IfOk-at_ok _ is c.apply_next.ensures.applied
    clean held at (c.in_ok-deposit.ensures.holds (chain_state held) stood)))
