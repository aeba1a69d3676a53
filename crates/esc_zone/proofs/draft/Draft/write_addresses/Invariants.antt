use Rattle.std.proofs.Common.{◌≡◌, take}
use Rattle.esc_zone.specs.Drafts.{zone_notes}
use Rattle.esc_zone.specs.Delegations.{with_records}
use Rattle.esc_zone.specs.Glue.{address_records}
use Rattle.esc_zone.specs.Told.{told_lines}
use Rattle.esc_zone.proofs.draft.Draft.write_addresses.Given as goal

abbrev pub invariant-loop-address : goal.invariant-loop-address
invariant-loop-address l = record {
  state : zone_notes l.self ≡ zone_notes l.fn.self;
  records : l.sheet.records ≡ with_records l.fn.sheet.records
      (address_records l.fn.sheet.records.ttl l.host (take l.address-index l.addresses));
  told : told_lines l.sheet ≡ told_lines l.fn.sheet;
}
