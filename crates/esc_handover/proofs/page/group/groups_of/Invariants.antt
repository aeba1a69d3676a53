use Rattle.std.proofs.Common.{◌≡◌, ◌+◌, take}
use Rattle.std.specs.Prelude.{count_by}
use Rattle.esc_handover.specs.Picture.{takes, places_in, places_in_group}
use Rattle.esc_handover.proofs.page.group.groups_of.Given as goal

-- the places so far are in the groups and in the open one
abbrev pub invariant-loop-line : goal.invariant-loop-line
invariant-loop-line l =
    places_in l.groups.items + places_in_group l.current ≡ count_by (takes l.grouping) (take l.line-index l.gaps)
