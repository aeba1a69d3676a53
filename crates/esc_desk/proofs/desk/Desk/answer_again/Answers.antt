use Rattle.std.proofs.Common.{rules, ◌≡◌, List, ℕ, Option, Some, IfSome, sym, ap, subst, ◌∙◌}
use Rattle.sha2.specs.Sha256.{sha256}
use Rattle.esc_tables.specs.Reading.{reading}
use Rattle.esc_manifest.specs.declared.row.MRow.{MRow}
use Rattle.esc_store.specs.ReplyValue.{ReplyValue, reply_alike}
use Rattle.esc_store.specs.StandingLaws.{was_honest}
use Rattle.esc_events.specs.declared.assessment.Assessment.{Assessment}
use Rattle.esc_events.specs.declared.assessment.Assessment.TheVariants.{Unlisted}
use Rattle.esc_events.specs.declared.cache.Cache.{Cache}
use Rattle.esc_events.specs.declared.parking.Parking.TheVariants.{Crowded}
use Rattle.esc_events.specs.ArrivalValue.{an_arrival}
use Rattle.esc_events.specs.Assessment.{assessment}
use Rattle.esc_events.specs.Cache.{IsCacheOf}
use Rattle.esc_events.specs.Events.{EventValue, union}
use Rattle.esc_events.specs.Parks.{IsParking}
use Rattle.esc_events.specs.Taking.{IsAgain}
use Rattle.esc_desk.specs.declared.decision.Decision.{Decision}
use Rattle.esc_desk.specs.Answering.{IsAnswer}
use Rattle.esc_desk.specs.Decisions.{IsSound}
use Rattle.esc_desk.proofs.Answered.{again_answer, cause_again, other_answer}
use Rattle.esc_desk.proofs.CauseLemmas.{if_err_is}
use Rattle.esc_desk.proofs.ComingAgain.{is_again, IsOther, no_verdict, told_again}
use Rattle.esc_desk.proofs.DecidingArrivals.{arriving_again}
use Rattle.esc_desk.proofs.desk.Desk.answer_again.Goals as goal

-- what was found is what is found by the rows that are listed
same_found : (e : List EventValue) (body : List ℕ) {m : List MRow} {found : Assessment} → found
    ≡ assessment sha256 reading m body → m ≡ union e → assessment sha256 reading (union e) body ≡ found
same_found e body is listed = sym (is ∙ ap (λ (x : List MRow). assessment sha256 reading x body) listed)

pub returns-in_err-decision-in-A2-clause-full : goal.returns-in_err-decision-in-A2-clause-full
returns-in_err-decision-in-A2-clause-full g c = λ clean e n k asked.
    let a = an_arrival n c.args.content.body.now in
    let a2 = sym (ap (λ (v : ReplyValue). v.verdict) c.reply.view_is) ∙ c.in-A2.is in
    let is = is_again e n c.args.content.body.now k c.args.reply
    c.args.content.digest c.args.content.is_digest asked.stands_for a2 asked.kept_is in
    let there = c.in_ok-cache-in-A2.ensures.same.stands k asked.stood in
    let found = same_found e c.args.content.body.now c.in_ok-found-in-A2.ensures.found
    (c.manifest.ensures.kept k there ∙ asked.stands_for.books.listed) in
    if_err_is c.from_residual-in_err-decision-in-A2.result c.in_err-decision-in-A2.field-0.0 _ (search rules)
    (cause_again g.S.Store c.take_cache.new.self.store c.decide_arrival.new.store
    c.in_ok-found-in-A2.found c.args.content.digest c.in_err-decision-in-A2.field-0.0
    e a k clean there asked.stands_for.books c.args.content.is_digest (sym found)
    c.args.reply (told_again e a k _ _ is) a2 c.in_err-decision-in-A2.ensures.cause)

pub returns-in_ok-decision-in-A2-clause-answers : goal.returns-in_ok-decision-in-A2-clause-answers
returns-in_ok-decision-in-A2-clause-answers g c = λ clean e n k asked.
    let a = an_arrival n c.args.content.body.now in
    let a2 = sym (ap (λ (v : ReplyValue). v.verdict) c.reply.view_is) ∙ c.in-A2.is in
    let is = is_again e n c.args.content.body.now k c.args.reply
    c.args.content.digest c.args.content.is_digest asked.stands_for a2 asked.kept_is in
    let there = c.in_ok-cache-in-A2.ensures.same.stands k asked.stood in
    let knows = c.in_ok-cache-in-A2.ensures.cache (was_honest c.in_ok-decision-in-A2.ensures.same clean)
    e k asked.stood asked.stands_for asked.cache_is in
    let found = same_found e c.args.content.body.now c.in_ok-found-in-A2.ensures.found
    (c.manifest.ensures.kept k there ∙ asked.stands_for.books.listed) in
    let at = subst (λ (f : Assessment). IsAgain e a k f c.args.reply) found is in
    let place = c.in_ok-decision-in-A2.ensures.place clean k there in
    again_answer at (c.in_ok-decision-in-A2.ensures.decided clean e n k there (arriving_again at knows))
    c.in_ok-decision-in-A2.ensures.receipt
    (subst (λ (d : List ℕ). c.in_ok-found-in-A2.found ≡ Unlisted
    → IsParking k.parked d Crowded → ⊥) c.args.content.is_digest place)

pub returns-in-A1 : goal.returns-in-A1
returns-in-A1 g c = record {
  same = search rules;
  forgotten = c.take-cache.ensures.after;
  sound = subst (λ (d : Decision). IsSound c.args.self.now.store.manifest d) (sym c.still.ensures)
      (record { begins = tt; plan = tt; read = tt });
  answers = λ clean e n k asked.
      let other = no_verdict c.args.reply.verdict
      (subst (λ (v : ReplyValue). IsOther v.verdict) c.reply.view_is c.in-A1.is) in
      let there = subst (λ (d : List ℕ). reply_alike (union e) 1 n d k.receipts ≡ Some c.args.reply)
      c.args.content.is_digest asked.kept_is in
      let knows = subst (λ (o : Option Cache). IfSome o (IsCacheOf k)) (sym c.take-cache.ensures.value)
      asked.cache_is in
      subst (λ (d : Decision). IsAnswer e (an_arrival n c.args.content.body.now) k
      (record { reply = c.args.reply; decision = d })) (sym c.still.ensures)
      (other_answer e _ k c.args.reply c.take-cache.result asked.stands_for knows there other);
  cause = tt;
  full = λ clean e n k asked. tt;
}
