use Rattle.std.proofs.Common.{sym, ◌∙◌}
use Rattle.std.proofs.lemmas.Result.{on_ok_weaker}
use Rattle.esc_events.specs.ArrivalValue.{an_arrival}
use Rattle.esc_desk.proofs.Holding.{told_held, told_still}
use Rattle.esc_desk.proofs.receiving.tell.Goals as goal

pub returns-in-Some-clause-told : goal.returns-in-Some-clause-told
returns-in-Some-clause-told c = on_ok_weaker c.insert_row.result (λ inserted. λ e n body k receipt is.
    told_held e (an_arrival n body) k c.args.found.now c.args.cache.now
    receipt is c.in-Some.row (sym c.held_row.ensures ∙ c.in-Some.is) c.insert_row.new.rows.items
    (inserted is.cache_is.told.rising)) c.insert_row.ensures

pub returns-in-None-clause-told : goal.returns-in-None-clause-told
returns-in-None-clause-told c = λ e n body k receipt is.
    told_still e (an_arrival n body)
    k c.args.found.now c.args.cache.now receipt is (sym c.held_row.ensures ∙ c.in-None.is)
