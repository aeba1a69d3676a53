use Rattle.std.proofs.Common.{◌≡◌, take}
use Rattle.esc_zone.specs.Drafts.{zone_notes}
use Rattle.esc_zone.specs.Mirrors.{original_notes}
use Rattle.esc_zone.specs.Delegations.{with_records, server_records}
use Rattle.esc_zone.specs.Told.{told_lines}
use Rattle.esc_zone.proofs.draft.Draft.write_servers.Given as goal

abbrev pub invariant-loop-server : goal.invariant-loop-server
invariant-loop-server l = record {
  state : zone_notes l.self ≡ zone_notes l.fn.self;
  originals : original_notes l.self ≡ original_notes l.fn.self;
  records : l.sheet.records ≡ with_records l.fn.sheet.records
      (server_records l.fn.sheet.records.ttl l.name (take l.server-index l.servers));
  told : told_lines l.sheet ≡ told_lines l.fn.sheet;
}
