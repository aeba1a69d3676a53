use Rattle.esc_store.proofs.Common.{◌∙◌, ap, sym, subst, map, IfOk-at_ok, IsStoreDatabase, if_goes}
use Rattle.esc_store.proofs.Common.{was_clean, listed_row}
use Rattle.std.proofs.Common.{rules}
use Rattle.esc_store.proofs.Ends.{tables_of}
use Rattle.esc_store.proofs.OpeningLemmas.{if_err_is}
use Rattle.esc_store.proofs.opening.read_manifest.Goals as goal

pub returns-clause-manifest : goal.returns-clause-manifest
returns-clause-manifest g c =
    if_goes c.kept_manifest.result _ _ c.kept_manifest.ensures.manifest (λ manifest is clean k stored.
    let same = (c.in_ok-test_version.ensures.version (was_clean c.all_listed.ensures.read.survives clean)).0.0.now_is in
    let store = subst (λ db. IsStoreDatabase db k) (sym same) stored in
    is k.listed (ap (map listed_row) c.as_slice.ensures.value ∙ ((IfOk-at_ok _ c.in_ok-stored.was
    (c.all_listed.ensures.read.said clean)).0 _ (tables_of store) ∙ store.kept.books.listed)))

pub returns-in_err-test_version-clause-never : goal.returns-in_err-test_version-clause-never
returns-in_err-test_version-clause-never g c = if_err_is c.from_residual.result
    c.in_err-test_version.field-0.0 _ (search rules) c.in_err-test_version.ensures.never
