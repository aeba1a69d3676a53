use Rattle.std.proofs.Common.{◌≡◌, ◌++◌, drop}
use Rattle.std.specs.List.{flat_map}
use Rattle.esc_check.specs.Gathered.{child_links}
use Rattle.esc_check.proofs.link.add_of_children.Given as goal

abbrev pub invariant-loop-row : goal.invariant-loop-row
invariant-loop-row l = l.links.items ++ flat_map (child_links l.key) (drop l.row-index l.children)
    ≡ l.fn.links.items ++ flat_map (child_links l.key) l.children
