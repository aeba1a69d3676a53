use Rattle.std.proofs.Common.{◌≡◌, ◌≤◌}
use Rattle.esc_zone.specs.Told.{told_lines}
use Rattle.esc_zone.proofs.draft.Draft.tell_foreign.Given as goal

abbrev pub invariant-loop-row : goal.invariant-loop-row
invariant-loop-row l = record {
  same : l.sheet.records ≡ l.fn.sheet.records;
  told : told_lines l.fn.sheet ≤ told_lines l.sheet;
}
