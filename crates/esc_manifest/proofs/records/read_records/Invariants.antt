use Rattle.std.proofs.Common.{◌≡◌, ◌≤◌, ◌+◌, ◌++◌, length}
use Rattle.esc_csv.specs.Records.{records_of}
use Rattle.esc_manifest.specs.RowFaults.{most_manifest_rows}
use Rattle.esc_manifest.proofs.records.read_records.Given as goal

-- the records so far, and those that are left, are all
abbrev pub invariant-loop-fields : goal.invariant-loop-fields
invariant-loop-fields l = record {
  read : l.records.items ++ l.unread ≡ records_of l.text;
  few : length l.records.items ≤ most_manifest_rows + 1;
}

abbrev pub decreases-loop-fields : goal.decreases-loop-fields
decreases-loop-fields l = length l.unread
