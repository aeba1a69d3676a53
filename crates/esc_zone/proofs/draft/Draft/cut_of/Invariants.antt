use Rattle.std.proofs.Common.{◌≡◌, ◌+◌, length}
use Rattle.std.specs.List.{last_or}
use Rattle.std.specs.Option.{option_map_or}
use Rattle.esc_zone.specs.Drafts.{zone_notes, cut_of}
use Rattle.esc_zone.proofs.Above.{cuts_from}
use Rattle.esc_zone.proofs.draft.Draft.cut_of.Given as goal

abbrev pub invariant-loop-next : goal.invariant-loop-next
invariant-loop-next l = last_or l.found (cuts_from (zone_notes l.self) l.next) ≡ cut_of (zone_notes l.self) l.fn.name

abbrev pub decreases-loop-next : goal.decreases-loop-next
decreases-loop-next l = option_map_or (λ n. length n + 1) l.next 0
