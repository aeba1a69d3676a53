use Rattle.sqlite_wal.specs.Files.{image_at}
use Rattle.sqlite.specs.Files.{over_files}
use Rattle.esc_store.specs.StoreTables.{IsBlank}
use Rattle.esc_recovery.proofs.Founds.{holds_what_is}
use Rattle.esc_recovery.proofs.path.new_desk_at.Goals as goal

pub returns-in-Ok-clause-blank : goal.returns-in-Ok-clause-blank
returns-in-Ok-clause-blank g c = λ honest.
    let on = c.in-Ok.ensures.made in
    let clean = on.honest honest in
    let opened = c.in_ok-connection.ensures.opened clean in
    holds_what_is over_files c.in_ok-connection.connection (image_at g.S.Start)
    IsBlank (c.in_ok-connection.ensures.found clean).holds opened.0 opened.1 on.blank

pub returns-in-Ok-clause-serves : goal.returns-in-Ok-clause-serves
returns-in-Ok-clause-serves g c = c.in-Ok.ensures.made.serves

pub returns-in-Ok-clause-left : goal.returns-in-Ok-clause-left
returns-in-Ok-clause-left g c = c.in-Ok.ensures.made.left
