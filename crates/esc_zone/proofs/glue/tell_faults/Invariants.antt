use Rattle.std.proofs.Common.{◌≡◌, take}
use Rattle.esc_zone.specs.Addresses.{said_texts}
use Rattle.esc_zone.specs.Told.{told_lines, TellsOfAddresses}
use Rattle.esc_zone.proofs.glue.tell_faults.Given as goal

abbrev pub invariant-loop-row : goal.invariant-loop-row
invariant-loop-row l = record {
  same : l.sheet.records ≡ l.fn.sheet.records;
  told : TellsOfAddresses (said_texts (take l.row-index l.rows)) (told_lines l.fn.sheet) (told_lines l.sheet);
}
