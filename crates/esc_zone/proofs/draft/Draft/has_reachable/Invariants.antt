use Rattle.std.proofs.Common.{◌≡◌, take, List, ℕ, true}
use Rattle.esc_zone.specs.Drafts.{zone_notes}
use Rattle.esc_zone.specs.Noted.{is_among_names, IsReachable}
use Rattle.esc_zone.proofs.draft.Draft.has_reachable.Given as goal

-- none of the servers so far is reachable
abbrev pub invariant-loop-host : goal.invariant-loop-host
invariant-loop-host l = (q : List ℕ) → is_among_names (take l.host-index l.hosts) q ≡ true
    → IsReachable (zone_notes l.self).is_given (zone_notes l.self).said q → ⊥
