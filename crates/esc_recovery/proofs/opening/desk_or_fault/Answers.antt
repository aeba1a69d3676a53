use Rattle.std.proofs.lemmas.Result.{IfOk-at_ok}
use Rattle.esc_recovery.proofs.Founds.{if_same_value}
use Rattle.esc_recovery.proofs.opening.desk_or_fault.Goals as goal

pub returns-clause-opened : goal.returns-clause-opened
returns-clause-opened g c = if_same_value c.open_desk.result
    c.map_err.result _ c.map_err.ensures.cases _ (λ desk is. IfOk-at_ok _ is c.open_desk.ensures.opened)
