use Rattle.std.proofs.Common.{◌≡◌, Some, map, arith, sym, ap, subst, ◌∙◌}
use Rattle.std.proofs.lemmas.Result.{IfOk-weaker}
use Rattle.sqlite_catalog.proofs.QuietLemmas.{quiet_then}
use Rattle.sqlite_keyed.proofs.ListLemmas.{map-map}
use Rattle.sqlite_trees.specs.View.{View, IsClean}
use Rattle.esc_sql.specs.Content.{Content, HoldsRows}
use Rattle.esc_sql.specs.Changes.{ListsFrom, ObjectEntry}
use Rattle.esc_sql.specs.Entries.{stored_entry}
use Rattle.esc_scan.specs.declared.page.KeyEntry.{KeyEntry}
use Rattle.esc_scan.specs.KeyIndex.{HasKeys}
use Rattle.esc_scan.specs.ObjectKeys.{object_with}
use Rattle.esc_scan.proofs.KeyPages.{left_from, page_lists}
use Rattle.esc_scan.proofs.Scans.{only_then}
use Rattle.esc_scan.proofs.page.objects_from.Goals as goal

pub returns : goal.returns
returns g c =
    let kind = c.args.kind in
    let from = c.args.from.now in
    let start = g.S.Store.view c.args.store.now in
    let mid = g.S.Store.view c.entries_from.new.store in
    let new = g.S.Store.view c.objects_at.new.store in
    let first = c.in_ok-entries.ensures in
    let read = c.objects_at.ensures.read in
    let clean_before : IsClean new → IsClean mid = λ clean. omega (arith, clean, read.quiet.clean) in
    let same : IsClean mid → mid.trees ≡ start.trees = λ clean. ap (λ (v : View). v.trees) (first.only clean) in
    record {
      read = record {
        quiet = quiet_then c.entries_from.ensures.quiet read.quiet;
        only = λ clean. IfOk-weaker c.objects_at.result _ _
            (λ found only. only_then start mid new (first.only (clean_before clean)) only) (read.only clean);
        said = λ clean. IfOk-weaker c.objects_at.result _
            (λ found. (k : Content) → HoldsRows start.trees k → HasKeys start.trees k
            → ListsFrom kind from k (map stored_entry found.items))
            (λ found says k shows has.
            let at = clean_before clean in
            let told = says k (subst (λ t. HoldsRows t k) (sym (same at)) shows) in
            page_lists kind from has.0 k has.1 _ c.in_ok-entries.entries.items (map stored_entry found.items)
            (left_from kind from start.trees k has (first.ordered at)) (first.entries at)
            (map-map (λ (e : ObjectEntry). Some e) stored_entry found.items ∙ told
            ∙ ap (map (λ (it : KeyEntry). object_with it.rowid k.objects)) c.deref.ensures.value))
            (read.said clean);
      };
    }
