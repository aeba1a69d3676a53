use Rattle.std.proofs.Common.{rules}
use Rattle.std.proofs.lemmas.List.Edits.{map_over_more}
use Rattle.esc_table_files.specs.Gathering.{with_fields}
use Rattle.esc_table_files.proofs.layouts.add_all_fields.Goals as goal

pub loop-layout-preserved : goal.loop-layout-preserved
loop-layout-preserved c = search (rules, map_over_more (with_fields (c.args.key.now, c.args.object.now)))
