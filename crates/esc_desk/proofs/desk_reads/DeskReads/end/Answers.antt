use Rattle.std.proofs.Common.{sym, ◌∙◌}
use Rattle.esc_store.specs.StandingLaws.{as_before_then, was_honest}
use Rattle.esc_desk.proofs.ReadLemmas.{desk_read, no_end, end_said}
use Rattle.esc_desk.proofs.desk_reads.DeskReads.end.Goals as goal

pub returns-in-None-clause-end : goal.returns-in-None-clause-end
returns-in-None-clause-end g c = λ clean e serves.
    no_end e serves.kept serves.stands_for c.deref.result.now
    (c.deref.ensures.value ∙ c.in_ok-steps.ensures.steps clean serves.kept serves.stands)
    (sym c.last_row.ensures ∙ c.in-None.is)

pub returns-clause-end : goal.returns-clause-end
returns-clause-end g c = λ clean e serves.
    let k = serves.kept in
    let honest = was_honest c.in_ok-end-in-Some.ensures.same clean in
    let there = c.in_ok-steps.ensures.same.stands k serves.stands in
    let says = c.in_ok-end-in-Some.ensures.says clean k there in
    let steps = c.deref.ensures.value ∙ c.in_ok-steps.ensures.steps honest k serves.stands in
    end_said e k serves.stands_for c.deref.result.now c.in-Some.row
    says.0 c.in_ok-end-in-Some.end steps (sym c.last_row.ensures ∙ c.in-Some.is) says.1 says.2

pub returns-in_err-steps-clause-read : goal.returns-in_err-steps-clause-read
returns-in_err-steps-clause-read g c = desk_read g.S.Store c.args.self.now _ _ c.in_err-steps.ensures.same

pub returns-in-None-clause-read : goal.returns-in-None-clause-read
returns-in-None-clause-read g c = desk_read g.S.Store c.args.self.now _ _ c.in_ok-steps.ensures.same

pub returns-in_err-end-in-Some-clause-read : goal.returns-in_err-end-in-Some-clause-read
returns-in_err-end-in-Some-clause-read g c = desk_read g.S.Store
    c.args.self.now _ _ (as_before_then c.in_ok-steps.ensures.same c.in_err-end-in-Some.ensures.same)

pub returns-clause-read : goal.returns-clause-read
returns-clause-read g c = desk_read g.S.Store
    c.args.self.now _ _ (as_before_then c.in_ok-steps.ensures.same c.in_ok-end-in-Some.ensures.same)
