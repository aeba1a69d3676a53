use Rattle.std.proofs.Common.{◌≡◌, ◌+◌, length}
use Rattle.std.specs.List.{find}
use Rattle.std.specs.Option.{option_map_or}
use Rattle.esc_zone.specs.Noted.{draft_notes, is_domain_noted, zone_names, domain_at}
use Rattle.esc_zone.proofs.draft.Draft.domain_above.Given as goal

abbrev pub invariant-loop-next : goal.invariant-loop-next
invariant-loop-next l =
    let d = draft_notes l.self in
    find (is_domain_noted d) (zone_names d.settings l.next) ≡ domain_at d l.fn.host

abbrev pub decreases-loop-next : goal.decreases-loop-next
decreases-loop-next l = option_map_or (λ n. length n + 1) l.next 0
