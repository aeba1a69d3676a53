use Rattle.std.proofs.Common.{◌≡◌, ◌+◌, ◌≤◌, length, take}
use Rattle.std.specs.List.{count_by}
use Rattle.esc_zone.specs.Drafts.{zone_notes}
use Rattle.esc_zone.specs.Mirrors.{original_notes}
use Rattle.esc_zone.specs.Lists.{GivesEach}
use Rattle.esc_zone.specs.Signers.{IsSigner}
use Rattle.esc_zone.specs.Told.{told_lines, says_signer}
use Rattle.esc_zone.proofs.draft.Draft.signers_of.Given as goal

abbrev pub invariant-loop-row : goal.invariant-loop-row
invariant-loop-row l = record {
  state : zone_notes l.self ≡ zone_notes l.fn.self;
  originals : original_notes l.self ≡ original_notes l.fn.self;
  records : l.sheet.records ≡ l.fn.sheet.records;
  given : GivesEach (IsSigner l.name) (take l.row-index l.rows) l.given.items;
  told : count_by says_signer (take l.row-index l.rows) + told_lines l.fn.sheet
      ≤ length l.given.items + told_lines l.sheet;
}
