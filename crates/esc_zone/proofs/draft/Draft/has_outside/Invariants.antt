use Rattle.std.proofs.Common.{◌≡◌, take}
use Rattle.std.specs.List.{list_any}
use Rattle.esc_zone.specs.Delegations.{texts_of}
use Rattle.esc_zone.specs.Noted.{is_outside_server}
use Rattle.esc_zone.proofs.draft.Draft.has_outside.Given as goal

abbrev pub invariant-loop-text : goal.invariant-loop-text
invariant-loop-text l = l.has ≡ list_any (is_outside_server l.self.settings) (texts_of (take l.text-index l.texts))
