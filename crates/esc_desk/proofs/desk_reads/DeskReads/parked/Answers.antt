use Rattle.std.proofs.Common.{subst, sym, ◌∙◌}
use Rattle.esc_store.specs.StoreState.{AreParked}
use Rattle.esc_store.specs.StandingLaws.{as_before_then, was_honest}
use Rattle.esc_store.specs.ResultLaws.{if_both}
use Rattle.esc_desk.proofs.ReadLemmas.{desk_read, same_parked}
use Rattle.esc_desk.proofs.desk_reads.DeskReads.parked.Goals as goal

pub returns-clause-bodies : goal.returns-clause-bodies
returns-clause-bodies g c = λ clean e serves.
    let k = serves.kept in
    let before = was_honest c.parked_bodies.ensures.same clean in
    let there = c.in_ok-digests.ensures.same.stands k serves.stands in
    let digests = c.in_ok-digests.ensures.digests before k serves.stands in
    if_both c.parked_bodies.result _ _ _ c.parked_bodies.ensures.digests (c.parked_bodies.ensures.each clean k there)
    (λ bodies are each. same_parked e k serves.stands_for bodies.items (record {
      digests = subst
          (AreParked k.parked) (sym (are ∙ c.deref.ensures.value)) digests;
      each = each;
    }))

pub returns-in_err-digests-clause-read : goal.returns-in_err-digests-clause-read
returns-in_err-digests-clause-read g c = desk_read g.S.Store c.args.self.now _ _ c.in_err-digests.ensures.same

pub returns-clause-read : goal.returns-clause-read
returns-clause-read g c = desk_read g.S.Store
    c.args.self.now _ _ (as_before_then c.in_ok-digests.ensures.same c.parked_bodies.ensures.same)
