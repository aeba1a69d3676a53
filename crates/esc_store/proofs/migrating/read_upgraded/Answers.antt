use Rattle.esc_store.proofs.Common.{◌∙◌, ap, sym, subst, map, IfOk-at_ok, if_goes, IsStoreDatabase}
use Rattle.esc_store.proofs.Common.{was_clean, if_ok, listed_row}
use Rattle.esc_store.proofs.Ends.{tables_of}
use Rattle.esc_store.proofs.migrating.read_upgraded.Goals as goal

pub returns-clause-upgraded : goal.returns-clause-upgraded
returns-clause-upgraded g c = if_ok c.kept_manifest.result _ (λ x is clean k first.
    let said = IfOk-at_ok _ c.in_ok-stored.was (c.all_listed.ensures.read.said clean) in
    subst (λ db. IsStoreDatabase db k) (sym said.1.0.now_is) (c.in_ok-upgrade_here.ensures.upgraded
    (was_clean c.all_listed.ensures.read.survives clean) k first))

pub returns-clause-manifest : goal.returns-clause-manifest
returns-clause-manifest g c =
    if_goes c.kept_manifest.result _ _ c.kept_manifest.ensures.manifest (λ manifest is clean k first.
    let store = c.in_ok-upgrade_here.ensures.upgraded (was_clean c.all_listed.ensures.read.survives clean) k first in
    is k.listed (ap (map listed_row) c.as_slice.ensures.value ∙ ((IfOk-at_ok _ c.in_ok-stored.was
    (c.all_listed.ensures.read.said clean)).0 _ (tables_of store) ∙ store.kept.books.listed)))
