use Rattle.std.proofs.Common.{subst}
use Rattle.sqlite.specs.Files.{over_files, image_of}
use Rattle.esc_scan.specs.Opening.{IsHonestOpening, IsOpeningOf}
use Rattle.esc_recovery.proofs.Readings.{reader_from}
use Rattle.esc_recovery.proofs.reading.reader_of_files.Goals as goal

pub returns-in_ok-reader_over-in-Trees-clause-opened : goal.returns-in_ok-reader_over-in-Trees-clause-opened
returns-in_ok-reader_over-in-Trees-clause-opened g c = λ honest.
    let image = image_of g.D.Disk c.args.files in
    let reader = c.in_ok-reader_over-in-Trees in
    let reads = subst (λ it. IsHonestOpening it → IsOpeningOf image it)
    c.in-Trees.is c.in_ok-trees.ensures.opened (reader.ensures.honest honest) in
    reader_from over_files image _ reader.field-0 reads (reader.ensures.reflects honest)
    (reader.ensures.version honest) (reader.ensures.same honest)
