use Rattle.std.proofs.Common.{◌≡◌, ◌+◌, ◌≤◌, length}
use Rattle.esc_csv.specs.Records.{records_of}
use Rattle.esc_pack.specs.RowTests.{pass_test}
use Rattle.esc_pack.proofs.file_spot.row_spot.Given as goal

-- the rows that are left, with the number of the last one before them
abbrev pub invariant-loop-record : goal.invariant-loop-record
invariant-loop-record l = record {
  rising : l.before ≤ l.number;
  tested : pass_test l.test l.table l.number l.rows
      ≡ pass_test l.test l.table l.before (records_of l.file.bytes.now);
  counted : l.number + length l.rows ≡ l.before + length (records_of l.file.bytes.now);
}

abbrev pub decreases-loop-record : goal.decreases-loop-record
decreases-loop-record l = length l.rows
