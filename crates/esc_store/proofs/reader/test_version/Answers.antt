use Rattle.esc_store.proofs.Common.{ap, option_map}
use Rattle.sqlite_value.specs.declared.value.Value.TheVariants.{Int}
use Rattle.esc_store.proofs.OpeningLemmas.{differ}
use Rattle.esc_store.proofs.Readers.{scan_then}
use Rattle.esc_store.proofs.reader.test_version.Goals as goal

pub returns-then-ne-clause-read : goal.returns-then-ne-clause-read
returns-then-ne-clause-read g c = scan_then c.in_ok-find_version.ensures.read tt

pub returns-then-ne-clause-never : goal.returns-then-ne-clause-never
returns-then-ne-clause-never g c = λ is clean k stored.
    differ c.in_ok-find_version.field-0 c.if-ne.ensures
    (ap (λ v. option_map Int v) (c.in_ok-find_version.ensures.read.said clean _ stored.shows.rows))

pub returns-clause-read : goal.returns-clause-read
returns-clause-read g c = scan_then c.in_ok-find_version.ensures.read (λ content two. tt)
