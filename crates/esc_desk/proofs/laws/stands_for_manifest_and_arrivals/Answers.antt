use Rattle.esc_desk.proofs.EventLemmas.{union_then, arrivals_then}
use Rattle.esc_desk.proofs.AtFirst.{left_by_arrivals}
use Rattle.esc_desk.proofs.laws.stands_for_manifest_and_arrivals.Goals as goal

pub returns : goal.returns
returns c = record {
  left = left_by_arrivals;
  rows = union_then;
  arrivals = arrivals_then;
}
