use Rattle.std.proofs.Common.{arith, ◌≡◌, ◌++◌, ◌∷◌, [], Some, Option, List, map, take, sym, ap, ap₂, subst}
use Rattle.std.proofs.Common.{◌∙◌}
use Rattle.std.proofs.lemmas.List.{take_more, map-append, take_all}
use Rattle.sqlite_catalog.proofs.QuietLemmas.{quiet_then}
use Rattle.sqlite_trees.specs.View.{View, IsClean}
use Rattle.esc_sql.specs.Content.{HoldsRows}
use Rattle.esc_sql.specs.Changes.{ObjectEntry}
use Rattle.esc_sql.specs.declared.object.StoredObject.{StoredObject}
use Rattle.esc_sql.specs.Entries.{stored_entry}
use Rattle.esc_scan.specs.declared.page.KeyEntry.{KeyEntry}
use Rattle.esc_scan.specs.ObjectKeys.{object_with}
use Rattle.esc_scan.proofs.Scans.{only_then}
use Rattle.esc_scan.proofs.page.objects_at.Goals as goal

pub loop-entry-preserved : goal.loop-entry-preserved
loop-entry-preserved g c =
    let start = g.S.Store.view c.args.store.now in
    let old = g.S.Store.view c.loop-entry.store in
    let new = g.S.Store.view c.object_of.new.store in
    let read = c.object_of.ensures.read in
    let clean_before : IsClean new → IsClean old = λ clean. omega (arith, clean, read.quiet.clean) in
    record {
      only = λ clean. only_then start old new (c.loop-entry.invariant.only (clean_before clean))
          (c.in_ok-object_of.ensures.read.only clean);
      quiet = quiet_then c.loop-entry.invariant.quiet read.quiet;
      found = λ clean k shows.
          let at = c.loop-entry.entry-index in
          let same : old.trees ≡ start.trees =
          ap (λ (v : View). v.trees) (c.loop-entry.invariant.only (clean_before clean)) in
          let here = c.in_ok-object_of.ensures.read.said clean k (subst (λ t. HoldsRows t k) (sym same) shows) in
          let shown : StoredObject → Option ObjectEntry = λ it. Some (stored_entry it) in
          let told : KeyEntry → Option ObjectEntry = λ it. object_with it.rowid k.objects in
          ap (map shown) c.in_ok-push.ensures.items
          ∙ map-append shown c.loop-entry.found.items (_ ∷ [])
          ∙ ap₂ (λ (xs ys : List (Option ObjectEntry)). xs ++ ys)
          (c.loop-entry.invariant.found (clean_before clean) k shows) (ap (λ o. o ∷ []) here)
          ∙ sym (map-append told (take at c.args.entries.now) (c.entry-item.result ∷ []))
          ∙ ap (λ (e : KeyEntry). map told (take at c.args.entries.now ++ e ∷ [])) c.entry-item.is
          ∙ ap (map told) (sym (take_more c.args.entries.now at _ c.loop-entry-test.true));
    }

pub returns : goal.returns
returns g c = record {
  read = record {
    quiet = c.loop-entry.invariant.quiet;
    only = c.loop-entry.invariant.only;
    said = λ clean k shows. c.loop-entry.invariant.found clean k shows
        ∙ ap (map (λ (it : KeyEntry). object_with it.rowid k.objects))
        (take_all _ c.args.entries.now c.loop-entry-test.false);
  };
}
