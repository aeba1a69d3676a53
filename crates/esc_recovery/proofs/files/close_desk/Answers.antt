use Rattle.sqlite.specs.Files.{image_of}
use Rattle.esc_recovery.proofs.Founds.{closed_store}
use Rattle.esc_recovery.proofs.files.close_desk.Goals as goal

pub returns-in-Ok-clause-holds : goal.returns-in-Ok-clause-holds
returns-in-Ok-clause-holds g c = λ clean e served.
    let copied = c.in-Ok.ensures.copied clean in
    closed_store c.connection_of.result c.in-Ok.files copied e (c.connection_of.ensures.rests e served)
    (image_of g.D.Disk c.in-Ok.files) copied.seen

pub returns-in-Ok-clause-left : goal.returns-in-Ok-clause-left
returns-in-Ok-clause-left g c = λ clean e served image may.
    let copied = c.in-Ok.ensures.copied clean in
    closed_store c.connection_of.result
    c.in-Ok.files copied e (c.connection_of.ensures.rests e served) image (copied.left image may)
