use Rattle.std.proofs.Common.{refl}
use Rattle.esc_desk.proofs.laws.worked_replies.Goals as goal

pub returns : goal.returns
returns c = record {
  distinct_ones = refl;
  repeated = refl;
  again = refl;
  unlisted = refl;
  never_arrived = refl;
}
