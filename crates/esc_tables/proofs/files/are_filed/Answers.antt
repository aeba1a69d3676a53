use Rattle.std.proofs.Common.{◌≡◌, ◌++◌, true, sym, ◌∙◌}
use Rattle.std.specs.List.{list_all}
use Rattle.std.proofs.lemmas.List.Folds.{list_all-append, list_all-map}
use Rattle.esc_bundle.specs.Bundle.{views}
use Rattle.esc_tables.specs.TableRow.{is_there}
use Rattle.esc_tables.proofs.files.are_filed.Goals as goal

pub returns : goal.returns
returns c =
    let contents : list_all (is_there (views c.args.files.now)) c.args.contents.now ≡ true =
    sym c.are_there.ensures ∙ c.if-not-are_there.false in
    let deletes : list_all (is_there (views c.args.files.now)) c.args.deletes.now ≡ true =
    sym c.are_there-else-not-are_there.ensures ∙ c.if-not-are_there-2.false in
    let there : list_all (is_there (views c.args.files.now)) (c.args.contents.now ++ c.args.deletes.now)
    ≡ true = rw (list_all-append, contents, deletes) in
    rw (there, list_all-map) c.are_declared.ensures
