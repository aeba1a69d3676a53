use Rattle.std.proofs.Common.{◌≡◌, take}
use Rattle.std.specs.Prelude.{filter_map}
use Rattle.esc_zone.specs.Delegations.{texts_of}
use Rattle.esc_zone.specs.Noted.{zone_server_in}
use Rattle.esc_zone.proofs.draft.Draft.inside.Given as goal

abbrev pub invariant-loop-text : goal.invariant-loop-text
invariant-loop-text l =
    l.hosts.items ≡ filter_map (zone_server_in l.self.settings) (texts_of (take l.text-index l.texts))
