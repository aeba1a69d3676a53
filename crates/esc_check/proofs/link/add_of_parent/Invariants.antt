use Rattle.std.proofs.Common.{◌≡◌, ◌++◌, drop}
use Rattle.std.specs.List.{flat_map}
use Rattle.esc_check.specs.Fields.{parent_fields}
use Rattle.esc_check.specs.Gathered.{field_links}
use Rattle.esc_check.proofs.link.add_of_parent.Given as goal

abbrev pub invariant-loop-field : goal.invariant-loop-field
invariant-loop-field l =
    l.links.items ++ flat_map (field_links l.key l.parent) (drop l.field-index l.field-items)
    ≡ l.fn.links.items ++ flat_map (field_links l.key l.parent) (parent_fields l.key.kind)
