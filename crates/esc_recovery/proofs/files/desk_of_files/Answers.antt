use Rattle.esc_store.specs.ResultLaws.{if_both}
use Rattle.sqlite.specs.Files.{over_files, image_of}
use Rattle.esc_recovery.proofs.Founds.{opened_from}
use Rattle.esc_recovery.proofs.files.desk_of_files.Goals as goal

pub returns-clause-honest : goal.returns-clause-honest
returns-clause-honest g c = if_both c.desk_or_fault.result
    _ _ _ c.desk_or_fault.ensures.opened c.desk_or_fault.ensures.opened (λ desk on also honest.
    (c.in-Ok.ensures.found (on.honest honest)).honest)

pub returns-clause-opened : goal.returns-clause-opened
returns-clause-opened g c = if_both c.desk_or_fault.result
    _ _ _ c.desk_or_fault.ensures.opened c.desk_or_fault.ensures.opened (λ desk on also honest.
    let clean = on.honest honest in
    let opened = c.in-Ok.ensures.opened clean in
    opened_from over_files c.in-Ok.connection (image_of g.D.Disk c.args.files)
    desk on honest (c.in-Ok.ensures.found clean).holds opened.0 opened.1)
