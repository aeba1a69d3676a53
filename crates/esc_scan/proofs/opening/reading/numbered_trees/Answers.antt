use Rattle.std.proofs.Common.{◌≡◌, ap, ap₂, ◌∙◌}
use Rattle.std.proofs.Math.Path.{subst₃}
use Rattle.std.proofs.lemmas.Bool.{cond-true}
use Rattle.std.proofs.Math.Logic.{∥∥₁_elim, ∥∥₁_map}
use Rattle.sqlite_trees.specs.Tree.{no_trees}
use Rattle.sqlite_trees.proofs.Doubt.{no_doubt}
use Rattle.sqlite_store.specs.FileStore.{state}
use Rattle.sqlite_store.specs.Unopened.{state_of, wanted_by, image}
use Rattle.sqlite_store.specs.Listing.{file_trees, IsOurs}
use Rattle.sqlite_store.specs.Saved.{kept_schema}
use Rattle.esc_scan.proofs.ReadLaws.{reads_tables, reads_indexes}
use Rattle.sqlite_trees.specs.Props.{rows_set}
use Rattle.esc_scan.proofs.opening.reading.numbered_trees.Goals as goal

pub returns-in-Ok-clause-found : goal.returns-in-Ok-clause-found
returns-in-Ok-clause-found g c now =
    let old = c.args.files in
    let e = c.in-Ok.ensures in
    let store = c.in-Ok.store in
    let sized = (e.kept now).size in
    let pages = (state store).committed in
    let kept = kept_schema store.saved store.schema.items in
    let listing : kept ≡ wanted_by old =
    ap (λ o. kept_schema o store.schema.items) e.ready.unaltered ∙ e.schema in
    record {
      pages = pages;
      found = e.found now;
      ours = ∥∥₁_map (store.stored (e.ready.is_open (no_doubt _ now)))
          (λ s. subst₃ (λ n b x. IsOurs n b x pages) sized e.numbered listing s.ours);
      reads = e.ready.clean ∙ cond-true _ (file_trees (state store).page_size kept pages) no_trees now
          ∙ ap₂ (λ n s. file_trees n s pages) sized listing;
    }

pub returns-in-Ok-clause-tables : goal.returns-in-Ok-clause-tables
returns-in-Ok-clause-tables g c = λ now db schema held sound table has at.
    let old = c.args.files in
    let by = returns-in-Ok-clause-found g c now in
    ap (λ d. d table.tree) by.reads ∙ ∥∥₁_elim by.ours (rows_set _ _)
    (λ ours. reads_tables (state_of old).page_size (image old) (wanted_by old) by.pages by.found ours
    db schema held sound table has at)

pub returns-in-Ok-clause-indexes : goal.returns-in-Ok-clause-indexes
returns-in-Ok-clause-indexes g c = λ now db schema held sound index has bits at.
    let old = c.args.files in
    let by = returns-in-Ok-clause-found g c now in
    ap (λ d. d index.tree) by.reads ∙ ∥∥₁_elim by.ours (rows_set _ _)
    (λ ours. reads_indexes (state_of old).page_size (image old) (wanted_by old) by.pages by.found ours
    db schema held sound index has bits at)
