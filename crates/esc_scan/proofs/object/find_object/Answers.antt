use Rattle.std.proofs.Common.{rules, ℤ, filter, subst, w64}
use mir.Val.{SFits}
use Rattle.std.proofs.lemmas.Int.{to_z-of_z}
use Rattle.sqlite_trees.specs.Tree.{has_rowid}
use Rattle.esc_sql.specs.StoreTable.{Objects}
use Rattle.esc_sql.specs.Entries.{stored_entry}
use Rattle.esc_sql.specs.Changes.{object_entry}
use Rattle.esc_scan.specs.Scanning.{ReadsRow, ReadsFirst}
use Rattle.esc_scan.proofs.Firsts.{object_is}
use Rattle.esc_scan.proofs.object.find_object.Goals as goal

pub returns : goal.returns
returns g c =
    let fits : SFits w64 c.args.id = search rules in
    let rows = (g.S.Store.view c.args.store.now).trees 9 in
    record {
      read = record {
        quiet = c.read_at.ensures.quiet;
        only = λ clean. c.in_ok-found.ensures.only clean;
        said = λ clean k shows.
            let first = subst (λ (z : ℤ). ReadsFirst (ReadsRow Objects stored_entry object_entry)
            (filter (has_rowid z) rows) c.in_ok-found.found)
            (to_z-of_z w64 c.args.id fits) (c.in_ok-found.ensures.reads clean) in
            object_is c.args.id k.objects c.in_ok-found.found rows (shows.tables Objects) first;
      };
    }
