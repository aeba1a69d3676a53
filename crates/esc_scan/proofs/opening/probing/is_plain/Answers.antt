use Rattle.std.proofs.Common.{◌≡◌, eqb-true}
use Rattle.sqlite.specs.Files.{image_of}
use Rattle.sqlite_wal.specs.PageSize.{bytes_of}
use Rattle.esc_scan.proofs.OpenLemmas.{plain_word}
use Rattle.esc_scan.proofs.opening.probing.is_plain.Goals as goal

pub returns-then-head-eq83-clause-plain : goal.returns-then-head-eq83-clause-plain
returns-then-head-eq83-clause-plain g c told clean =
    let word : c.in-Ok.head.1 ≡ 0x0040_2020 = eqb-true _ _ told in
    plain_word (image_of g.D.Disk c.args.files.now)
    (bytes_of c.args.size) c.in-Ok.head.0 c.in-Ok.head.1 (c.in-Ok.ensures.value clean) word
