use Rattle.std.proofs.Common.{◌≡◌, List, Some, map, slice_get, refl, ap, subst, ◌∙◌}
use Rattle.esc_manifest.specs.Accepted.{IsAccepted}
use Rattle.esc_store.specs.TableKeys.{key_at}
use Rattle.esc_store.specs.declared.reader.objects.TableKey.{TableKey}
use Rattle.esc_desk.proofs.LookupLemmas.{found_nowhere, found_there, key_there}
use Rattle.esc_desk.proofs.WalkSteps.{entries_kept}
use Rattle.esc_desk.proofs.lookup.StoreReaderLookup.find.Goals as goal

pub returns-in-None-clause-found : goal.returns-in-None-clause-found
returns-in-None-clause-found g c = λ honest e serves apart es entries order same.
    found_nowhere _ c.args.key.now es order
    (ap (λ (ks : List TableKey). map key_at ks) c.as_slice.ensures.value ∙ c.index.view_is ∙ same)
    (c.in-None.ensures.absent refl)

pub returns-in_ok-object-in-Some-clause-found : goal.returns-in_ok-object-in-Some-clause-found
returns-in_ok-object-in-Some-clause-found g c = λ honest e serves apart es entries order same.
    let k = serves.kept in
    let accepted = subst IsAccepted (c.manifest.ensures.kept k serves.stands
    ∙ serves.stands_for.books.listed) c.rows-rows.ensures.accepted in
    let says = c.in_ok-object-in-Some.ensures.object honest k serves.stands in
    let there : key_at c.index-in-Some.result.now ≡ c.args.key.now =
    key_there _ c.in-Some.at c.args.key.now c.index-in-Some.result.now
    (subst (λ (ks : List TableKey). slice_get (map key_at ks) c.in-Some.at ≡ Some c.args.key.now)
    c.as_slice.ensures.value c.in-Some.ensures.found) c.index-in-Some.ensures in
    found_there _ c.args.key.now es order
    (ap (λ (ks : List TableKey). map key_at ks) c.as_slice.ensures.value ∙ c.index.view_is ∙ same)
    k.registry.content c.in-Some.at c.in_ok-object-in-Some.object
    (entries_kept c.latest_chain_at_is_one.ensures accepted apart serves.stands_for entries order).each
    c.in-Some.ensures.found (subst (λ q. k.registry.content q ≡ Some c.in_ok-object-in-Some.object) there says)
