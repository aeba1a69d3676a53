use Rattle.std.proofs.Common.{List}
use Rattle.std.specs.Io.KnownBytes.{Consumes}
use Rattle.sha2.specs.Hashers.{Holds256}
use Rattle.esc_table_files.proofs.sums.digest_of.Given as goal

-- what was read is in the hasher
abbrev pub invariant-loop : goal.invariant-loop
invariant-loop g l = (front : List _) × Holds256 l.hasher front
    × Consumes (g.R.Read.remaining l.fn.reader) (g.R.Read.remaining l.reader) front
