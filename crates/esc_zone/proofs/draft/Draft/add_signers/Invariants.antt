use Rattle.std.proofs.Common.{◌≡◌, take}
use Rattle.esc_zone.specs.Drafts.{zone_notes}
use Rattle.esc_zone.specs.Mirrors.{original_notes}
use Rattle.esc_zone.specs.Delegations.{with_records, signer_records}
use Rattle.esc_zone.specs.Told.{told_lines}
use Rattle.esc_zone.proofs.draft.Draft.add_signers.Given as goal

abbrev pub invariant-loop-ds : goal.invariant-loop-ds
invariant-loop-ds l = record {
  state : zone_notes l.self ≡ zone_notes l.fn.self;
  originals : original_notes l.self ≡ original_notes l.fn.self;
  records : l.sheet.records ≡ with_records l.fn.sheet.records
      (signer_records l.fn.sheet.records.ttl l.name (take l.ds-index l.signers));
  told : told_lines l.sheet ≡ told_lines l.fn.sheet;
}
