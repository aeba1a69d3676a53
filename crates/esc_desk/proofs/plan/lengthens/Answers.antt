use Rattle.std.proofs.Common.{rules}
use Rattle.esc_desk.proofs.plan.lengthens.Goals as goal

pub returns : goal.returns
returns c = record {
  longer = λ same. record {
    few = c.if-chain-ge-MOST_LISTED_ROWS.false;
    listed = (c.goes_at_end.ensures.exact.0 same).0.listed;
    in_range = c.goes_at_end.ensures.in_range same;
    end = c.in-Some.end;
    last_is = search rules;
    lengthens = c.goes_at_end.ensures.latest same;
  };
}
