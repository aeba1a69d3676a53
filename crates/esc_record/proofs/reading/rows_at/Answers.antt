use Rattle.std.proofs.Common.{sym, subst, ◌+◌}
use Rattle.std.specs.Str.{is_utf8}
use Rattle.esc_record.specs.Reading.{row_in_front}
use Rattle.esc_record.proofs.Readings.{Reads, no_more, one_more}
use Rattle.esc_record.proofs.reading.rows_at.Goals as goal

pub returns-in_default : goal.returns-in_default
returns-in_default c = no_more
    _ _ _ _ _ _ c.loop.invariant c.loop-test.true (sym (rw c.in_default.is at c.in_ok-row.ensures))

pub loop-preserved : goal.loop-preserved
loop-preserved c =
    subst (λ done. Reads (row_in_front is_utf8)
    c.args.count c.args.bytes.now (c.loop.counter + 1) done c.in-Some.behind.now)
    (sym c.in_ok-push.ensures.items)
    (one_more _ _ _ _ _ _ _ _ c.loop.invariant c.loop-test.true (sym (rw c.in-Some.is at c.in_ok-row.ensures)))
