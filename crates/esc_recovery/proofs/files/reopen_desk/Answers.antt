use Rattle.esc_store.specs.ResultLaws.{if_both}
use Rattle.esc_recovery.proofs.files.reopen_desk.Goals as goal

pub returns-clause-serves : goal.returns-clause-serves
returns-clause-serves g c = if_both c.desk_of_files.result _ _ _
    c.desk_of_files.ensures.honest c.desk_of_files.ensures.opened (λ again clean opened honest e served.
    ((opened honest).serves e (c.in_ok-files.ensures.holds (clean honest) e served)).0)

pub returns-clause-left : goal.returns-clause-left
returns-clause-left g c = if_both c.desk_of_files.result _ _ _
    c.desk_of_files.ensures.honest c.desk_of_files.ensures.opened (λ again clean opened honest e served.
    ((opened honest).serves e (c.in_ok-files.ensures.holds (clean honest) e served)).1)
