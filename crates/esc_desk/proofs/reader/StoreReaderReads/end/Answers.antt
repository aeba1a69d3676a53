use Rattle.std.proofs.Common.{sym, ◌∙◌}
use Rattle.esc_store.specs.ReadingLaws.{unwritten_honest}
use Rattle.esc_desk.proofs.ReadLemmas.{no_end, end_said}
use Rattle.esc_desk.proofs.reader.StoreReaderReads.end.Goals as goal

pub returns-in-None-clause-end : goal.returns-in-None-clause-end
returns-in-None-clause-end g c = λ clean e serves.
    no_end e serves.kept serves.stands_for c.deref.result.now
    (c.deref.ensures.value ∙ c.in_ok-steps.ensures.steps clean serves.kept serves.stands)
    (sym c.last_row.ensures ∙ c.in-None.is)

pub returns-clause-end : goal.returns-clause-end
returns-clause-end g c = λ clean e serves.
    let k = serves.kept in
    let honest = unwritten_honest g.S.Store c.in_ok-body-in-Some.ensures.same.unwritten clean in
    let there = c.in_ok-steps.ensures.same.stands k serves.stands in
    let kept = c.in_ok-body-in-Some.ensures.found clean k there in
    let says = c.in_ok-end-in-Some.ensures.says in
    let steps = c.deref.ensures.value ∙ c.in_ok-steps.ensures.steps honest k serves.stands in
    end_said e k serves.stands_for c.deref.result.now c.in-Some.row says.0
    c.in_ok-end-in-Some.end steps (sym c.last_row.ensures ∙ c.in-Some.is) (sym kept ∙ says.1) says.2
