use Rattle.esc_store.proofs.Common.{◌∙◌, ap, map, if_goes, listed_row}
use Rattle.std.proofs.Common.{rules}
use Rattle.esc_store.proofs.OpeningLemmas.{if_err_is}
use Rattle.esc_store.proofs.Readers.{scan_after, scan_then, was_honest}
use Rattle.esc_store.specs.ResultLaws.{on_any}
use Rattle.esc_store.proofs.reader.read_manifest.Goals as goal

pub returns-clause-read : goal.returns-clause-read
returns-clause-read g c =
    scan_after c.in_ok-test_version.ensures.read (scan_then c.in_ok-stored.ensures.read (if_goes
    c.kept_manifest.result _ _ c.kept_manifest.ensures.manifest (λ manifest is content says rows books.
    is rows (ap (map listed_row) c.as_slice.ensures.value ∙ (says ∙ books)))))

pub returns-clause-version : goal.returns-clause-version
returns-clause-version g c = on_any c.kept_manifest.result
    (λ clean. c.in_ok-test_version.ensures.version (was_honest c.in_ok-stored.ensures.read clean))

pub returns-in_err-test_version-clause-never : goal.returns-in_err-test_version-clause-never
returns-in_err-test_version-clause-never g c = if_err_is c.from_residual.result
    c.in_err-test_version.field-0.0 _ (search rules) c.in_err-test_version.ensures.never
