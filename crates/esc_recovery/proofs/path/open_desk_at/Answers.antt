use Rattle.sqlite_wal.specs.Files.{image_at}
use Rattle.sqlite.specs.Files.{over_files}
use Rattle.esc_recovery.proofs.Founds.{opened_from}
use Rattle.esc_recovery.proofs.path.open_desk_at.Goals as goal

pub returns-clause-opened : goal.returns-clause-opened
returns-clause-opened g c = λ honest.
    let on = c.in_ok-desk_or_fault.ensures.opened in
    let clean = on.honest honest in
    let opened = c.in_ok-connection.ensures.opened clean in
    opened_from over_files c.in_ok-connection.connection (image_at g.S.Start)
    _ on honest (c.in_ok-connection.ensures.found clean).holds opened.0 opened.1
