use Rattle.esc_scan.proofs.OpenLemmas.{opened_or}
use Rattle.esc_scan.proofs.opening.open_trees.Goals as goal

pub returns-in-Ok-clause-opened : goal.returns-in-Ok-clause-opened
returns-in-Ok-clause-opened g c =
    let probe = c.probe_page_size in
    let plain = c.is_plain in
    opened_or c.args.files probe.new.files
    plain.new.files probe.ensures.log probe.ensures.db plain.ensures.log
    plain.ensures.db c.in-Ok-Some.field-0 c.in-Ok-Some.size c.in-Ok-Some.field-0-is
    c.in-Ok-Some.ensures.by_log c.in-Ok-Some.ensures.by_file (plain.ensures.plain c.if-not-is_plain.false)
    c.in-Ok.fresh c.in-Ok.ensures.files c.in-Ok.ensures.size
    c.listed_trees.result c.listed_trees.ensures.honest c.listed_trees.ensures.opened
