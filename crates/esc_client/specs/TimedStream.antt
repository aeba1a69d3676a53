-- What a timed stream is made of.
use Rattle.esc_client.specs.declared.stream.TimedStream.{TimedStream}
use Rattle.esc_client.specs.declared.budget.TimeBudget.{TimeBudget}

-- the stream that is read and written
abbrev pub stream_of : {C S : Type 0} → TimedStream C S → S
stream_of timed = timed.stream

-- the budget that is left
abbrev pub budget_of : {C S : Type 0} → TimedStream C S → TimeBudget
budget_of timed = timed.budget
