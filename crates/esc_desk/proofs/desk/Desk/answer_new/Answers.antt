use Rattle.std.proofs.Common.{rules, ◌≡◌, List, ℕ, None, sym, ap, subst, ◌∙◌}
use Rattle.sha2.specs.Sha256.{sha256}
use Rattle.esc_tables.specs.Reading.{reading}
use Rattle.esc_store.specs.ReplyValue.{reply_alike}
use Rattle.esc_store.specs.StandingLaws.{was_honest}
use Rattle.esc_events.specs.declared.assessment.Assessment.TheVariants.{Unlisted}
use Rattle.esc_events.specs.declared.parking.Parking.TheVariants.{Crowded}
use Rattle.esc_events.specs.ArrivalValue.{an_arrival}
use Rattle.esc_events.specs.Events.{union}
use Rattle.esc_events.specs.Parks.{IsParking}
use Rattle.esc_events.specs.Receipts.{reply_to}
use Rattle.esc_desk.proofs.Answered.{new_answer, cause_new}
use Rattle.esc_desk.proofs.CauseLemmas.{if_err_is}
use Rattle.esc_desk.proofs.DecidingArrivals.{arriving_new}
use Rattle.esc_desk.proofs.desk.Desk.answer_new.Goals as goal

pub returns-in_err-decision-clause-full : goal.returns-in_err-decision-clause-full
returns-in_err-decision-clause-full g c = λ clean e k asked.
    let a = an_arrival c.args.delivery.number.now c.args.delivery.content.body.now in
    let there = c.in_ok-before.ensures.same.stands k asked.stood in
    let knows = c.in_ok-before.ensures.cache (was_honest c.in_err-decision.ensures.same clean)
    e k asked.stood asked.stands_for asked.cache_is in
    let got = c.in_ok-found.ensures.received
    e k (c.manifest-manifest.ensures.kept k there) asked.stands_for knows asked.kept_is in
    let is = got.is_new in
    let none : reply_to sha256 reading e a ≡ None =
    ap (reply_alike (union e) 1 a.number (sha256 a.body)) (sym is.stood.books.receipts) ∙ is.none in
    if_err_is c.from_residual-in_err-decision.result c.in_err-decision.field-0.0 _ (search rules)
    (cause_new g.S.Store c.take_cache.new.self.store
    c.decide_arrival.new.store c.in_ok-found.field-0.found c.args.delivery.content.digest
    c.in_err-decision.field-0.0 e a k clean there is.stood.books c.args.delivery.content.is_digest is.found_is
    c.in_ok-found.field-0.receipt none c.in_err-decision.ensures.cause)

pub returns-clause-answers : goal.returns-clause-answers
returns-clause-answers g c = λ clean e k asked.
    let a = an_arrival c.args.delivery.number.now c.args.delivery.content.body.now in
    let there = c.in_ok-before.ensures.same.stands k asked.stood in
    let knows = c.in_ok-before.ensures.cache (was_honest c.in_ok-decision.ensures.same clean)
    e k asked.stood asked.stands_for asked.cache_is in
    let listed = c.manifest-manifest.ensures.kept k there in
    let got = c.in_ok-found.ensures.received e k listed asked.stands_for knows asked.kept_is in
    let place = c.in_ok-decision.ensures.place clean k there in
    new_answer got (c.in_ok-decision.ensures.decided clean e a.number k there (arriving_new got))
    c.in_ok-decision.ensures.receipt
    c.in_ok-found.ensures.reply (listed ∙ asked.stands_for.books.listed)
    (subst (λ (d : List ℕ). c.in_ok-found.field-0.found ≡ Unlisted
    → IsParking k.parked d Crowded → ⊥) c.args.delivery.content.is_digest place)
