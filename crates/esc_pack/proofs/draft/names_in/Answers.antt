use Rattle.std.proofs.Common.{string_bytes, option_map, map, sym, ap, ◌∙◌}
use Rattle.std.proofs.lemmas.List.{map_push}
use Rattle.esc_pack.specs.Describing.{name_in}
use Rattle.esc_pack.proofs.Gathered.{added, none_added}
use Rattle.esc_pack.proofs.draft.names_in.Goals as goal

pub loop-file-preserved : goal.loop-file-preserved
loop-file-preserved c =
    added (name_in c.args.table c.args.fields.now) c.args.files.now _ c.loop-file-test.true c.file-item.is
    (ap (option_map string_bytes) (sym c.in-Some.is) ∙ c.in_ok-name.ensures) c.loop-file.invariant
    (ap (map string_bytes) c.in_ok-push.ensures.items ∙ map_push string_bytes c.loop-file.names.items c.in-Some.name)

pub loop-file-preserved-in_default : goal.loop-file-preserved-in_default
loop-file-preserved-in_default c =
    none_added (name_in c.args.table c.args.fields.now) c.args.files.now _ c.loop-file-test.true c.file-item.is
    (ap (option_map string_bytes) (sym c.in_default.is) ∙ c.in_ok-name.ensures) c.loop-file.invariant
