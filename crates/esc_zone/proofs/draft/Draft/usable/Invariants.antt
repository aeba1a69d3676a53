use Rattle.std.proofs.Common.{◌≡◌, ◌+◌, ◌≤◌, length, take}
use Rattle.esc_zone.specs.Lists.{GivesEach, Itself}
use Rattle.esc_zone.specs.Drafts.{zone_notes}
use Rattle.esc_zone.specs.Delegations.{IsUsable, texts_of}
use Rattle.esc_zone.specs.Told.{told_lines}
use Rattle.esc_zone.proofs.draft.Draft.usable.Given as goal

abbrev pub invariant-loop-text : goal.invariant-loop-text
invariant-loop-text l = record {
  same : l.sheet.records ≡ l.fn.sheet.records;
  kept : GivesEach (Itself (IsUsable (zone_notes l.self) l.name)) (texts_of (take l.text-index l.servers))
      l.written.items;
  told : l.text-index + told_lines l.fn.sheet ≤ length l.written.items + told_lines l.sheet;
}
