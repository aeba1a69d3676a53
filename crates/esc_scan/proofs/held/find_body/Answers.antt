use Rattle.std.proofs.Common.{rules, ◌≡◌, ℤ, pos, filter, subst, ◌∙◌, w64}
use mir.Val.{SFits}
use Rattle.std.proofs.lemmas.Int.{to_z-of_z}
use Rattle.sqlite_trees.specs.Tree.{has_rowid}
use Rattle.esc_sql.specs.StoreTable.{Held}
use Rattle.esc_scan.specs.Bodies.{body_read, body_of_row}
use Rattle.esc_scan.specs.Scanning.{ReadsRow, ReadsFirst}
use Rattle.esc_scan.proofs.Firsts.{body_is}
use Rattle.esc_scan.proofs.held.find_body.Goals as goal

pub returns : goal.returns
returns g c =
    let fits : SFits w64 c.from.result = search rules in
    let row_is : c.from.result ≡ pos c.args.row = search rules in
    let rows = (g.S.Store.view c.args.store.now).trees 6 in
    record {
      read = record {
        quiet = c.read_at.ensures.quiet;
        only = λ clean. c.in_ok-found.ensures.only clean;
        said = λ clean k shows.
            let first =
            subst (λ (z : ℤ). ReadsFirst (ReadsRow Held body_read body_of_row) (filter (has_rowid z)
            rows) c.in_ok-found.found) (to_z-of_z w64 c.from.result fits ∙ row_is)
            (c.in_ok-found.ensures.reads clean) in
            c.bytes_in.ensures ∙ body_is c.args.row k.held c.in_ok-found.found rows (shows.tables Held) first;
      };
    }
