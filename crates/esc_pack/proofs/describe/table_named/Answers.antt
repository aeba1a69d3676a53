use Rattle.std.proofs.Common.{◌∙◌, sym, ap}
use Rattle.std.specs.Option.{option_or}
use Rattle.std.specs.List.{find}
use Rattle.std.proofs.lemmas.List.Folds.{find-append}
use Rattle.esc_pack.specs.declared.known_table.KnownTable.{KnownTable}
use Rattle.esc_pack.specs.KnownTables.{file_stem, deletes_tables, contents_tables}
use Rattle.esc_pack.specs.Describing.{is_file_of}
use Rattle.esc_pack.proofs.describe.table_named.Goals as goal

pub returns : goal.returns
returns c =
    let test = λ (k : KnownTable). is_file_of (file_stem k) c.args.name.now in
    let deleted = c.first_named-deleted.ensures ∙ ap (find test) c.deletes_known.ensures in
    let held = c.first_named.ensures ∙ ap (find test) c.contents_known.ensures in
    c.or.ensures ∙ (λ k. option_or (deleted k) (held k)) ∙ sym (find-append test deletes_tables contents_tables)
