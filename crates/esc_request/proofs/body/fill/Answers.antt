use Rattle.std.proofs.Common.{rules, length}
use Rattle.esc_request.specs.Body.{IsShorter}
use Rattle.esc_request.specs.PieceLaws.{read_piece, read_failed}
use Rattle.esc_request.proofs.HeadLemmas.{taken_more, read_more}
use Rattle.esc_request.proofs.body.fill.Goals as goal

pub loop-at-preserved : goal.loop-at-preserved
loop-at-preserved g c = record {
  within = search rules;
  bytes = taken_more _ _ _ c.loop-at.at c.in_ok-count.count c.loop-at.buffer c.read_some.new.buffer _
      c.loop-at.invariant.within (search rules) c.loop-at.invariant.bytes c.in_ok-count.ensures.bytes.0;
  read = read_more _ (IsShorter (length c.args.buffer.now)) _ _ _ _ c.loop-at.at c.in_ok-count.count
      c.loop-at.buffer c.read_some.new.buffer _ c.loop-at.invariant.within (search rules)
      c.loop-at.invariant.read (search rules) c.in_ok-count.ensures.piece;
}

pub returns-in_err-count-clause-awaited : goal.returns-in_err-count-clause-awaited
returns-in_err-count-clause-awaited g c = (
  _,
  read_failed (IsShorter (length c.args.buffer.now))
      _ _ _ _ _ _ _ c.loop-at.invariant.read c.in_err-count.ensures.piece,
)

pub returns-then-count-eq0-clause-awaited : goal.returns-then-count-eq0-clause-awaited
returns-then-count-eq0-clause-awaited g c = (
  _,
  read_piece _ (IsShorter (length c.args.buffer.now))
      _ _ _ _ _ _ _ c.loop-at.invariant.read (search rules) c.in_ok-count.ensures.piece,
)
