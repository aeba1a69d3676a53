use Rattle.sqlite_wal.specs.Files.{image_at}
use Rattle.sqlite.specs.Files.{over_files}
use Rattle.esc_recovery.proofs.Founds.{migrated_from}
use Rattle.esc_recovery.proofs.path.migrated_desk_at.Goals as goal

pub returns-in-Ok-clause-migrated : goal.returns-in-Ok-clause-migrated
returns-in-Ok-clause-migrated g c = λ honest.
    let on = c.in-Ok.ensures.migrated in
    let clean = on.honest honest in
    let opened = c.in_ok-connection.ensures.opened clean in
    migrated_from over_files c.in_ok-connection.connection (image_at g.S.Start)
    _ on honest (c.in_ok-connection.ensures.found clean).holds opened.0 opened.1
