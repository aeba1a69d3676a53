use Rattle.std.proofs.Common.{IfOk, subst}
use Rattle.sqlite.specs.Files.{over_files}
use Rattle.esc_store.specs.Reading.{IsHonestReader}
use Rattle.esc_recovery.specs.ReadImages.{IsReaderFrom}
use Rattle.esc_recovery.proofs.Untouched.{untouched}
use Rattle.esc_recovery.proofs.reading.reader_at.Goals as goal

pub returns-clause-opened : goal.returns-clause-opened
returns-clause-opened g c =
    let (log, db) = c.in_ok-files.ensures.fresh in
    subst (λ i. IfOk c.reader_of_files.result
    (λ reader. IsHonestReader over_files reader → IsReaderFrom over_files i reader))
    (untouched g.S.Start.log g.S.Start.db log db) c.reader_of_files.ensures.opened
