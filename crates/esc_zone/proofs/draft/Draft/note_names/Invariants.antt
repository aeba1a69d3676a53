use Rattle.std.proofs.Common.{◌≡◌, ◌+◌, length, false}
use Rattle.std.specs.Option.{option_map_or}
use Rattle.esc_zone.specs.Noted.{draft_notes, with_noted, is_among_names, zone_names}
use Rattle.esc_zone.proofs.draft.Draft.note_names.Given as goal

-- with the names that are left all are noted
abbrev pub invariant-loop-next : goal.invariant-loop-next
invariant-loop-next l =
    let s = (draft_notes l.fn.self).settings in
    record {
      settings : (draft_notes l.self).settings ≡ s;
      names : with_noted (λ q. false) (is_among_names (zone_names s l.next)) (draft_notes l.self)
          ≡ with_noted (λ q. false) (is_among_names (zone_names s l.fn.first)) (draft_notes l.fn.self);
    }

abbrev pub decreases-loop-next : goal.decreases-loop-next
decreases-loop-next l = option_map_or (λ n. length n + 1) l.next 0
