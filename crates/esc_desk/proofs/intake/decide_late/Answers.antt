use Rattle.std.proofs.Common.{ℤ, List, Option, Some, None, refl, sym, ap, subst, ◌∙◌}
use Rattle.esc_manifest.specs.declared.row.MRow.{MRow}
use Rattle.esc_chain.specs.Chain.{IsLatestChainAt}
use Rattle.esc_store.specs.StoreState.{AreHeldBy}
use Rattle.esc_events.specs.ArrivalValue.{an_arrival}
use Rattle.esc_events.specs.Plans.{AreLatestSteps}
use Rattle.esc_desk.specs.declared.edit.Storing.TheVariants.{Hold}
use Rattle.esc_desk.specs.Edits.{receipted}
use Rattle.esc_desk.specs.Lengthening.{IsChainWithout}
use Rattle.esc_desk.proofs.Deciding.{decided_moved, decision_by}
use Rattle.esc_desk.proofs.DecidingArrivals.{late_move, late_idle, stores_something}
use Rattle.esc_desk.proofs.KnownRows.{held_more}
use Rattle.esc_desk.proofs.Lengthening.{one_more_held}
use Rattle.esc_desk.proofs.intake.decide_late.Goals as goal

pub returns-clause-decided : goal.returns-clause-decided
returns-clause-decided g c = λ clean e n k stood is none.
    let a = an_arrival n c.args.listed.body.now in
    let row = c.args.listed.row in
    let plan = c.in_ok-plan.ensures in
    let there = c.in_ok-moment.ensures.same.stands k stood in
    let listed = c.manifest.ensures.kept k there in
    let moment = c.in_ok-moment.ensures.moment clean k stood in
    let inserted = c.in_ok-insert_row.ensures is.held.rising in
    let held = held_more k.bodies
    row a.body c.args.noted.cache.held_rows.items c.insert_row.new.rows.items is.held inserted in
    let before : IsChainWithout k.listed
    c.insert_row.new.rows.items c.in_ok-moment.moment row c.args.noted.cache.chain.items = record {
      others = is.stood.held;
      one_more = one_more_held k.bodies row c.args.noted.cache.held_rows.items
          c.insert_row.new.rows.items is.stood.held is.stood.have_bodies is.held inserted;
      chain = k.steps;
      are_steps = is.chain;
      latest = subst (λ (t : Option ℤ). IsLatestChainAt k.listed is.stood.held t k.steps)
          (sym moment) is.stood.chain;
    } in
    let latest = subst (λ (m : List MRow). IsChainWithout
    m c.insert_row.new.rows.items c.in_ok-moment.moment row c.args.noted.cache.chain.items
    → AreLatestSteps m c.insert_row.new.rows.items c.in_ok-moment.moment c.in_ok-plan.plan.new.items)
    listed plan.latest before in
    let books = is.late row c.args.listed.deposit refl none in
    record {
      decided = decided_moved c.args.noted.receipt _ _ _ c.plan_arrived.new.cache
          c.latest_chain_at_rows_are_held.ensures c.read_deposits_mention_few.ensures
          plan.sound (late_move is row none books held moment latest (plan.old ∙ is.chain))
          (ap (λ v. v.items) plan.held)
          (subst (AreHeldBy (receipted c.args.noted.receipt k).receipts) (ap (λ v. v.items) (sym plan.told)) is.told);
      idle = λ work cost. late_idle is row none books work;
      there = λ empty. absurd
          (stores_something (decision_by c.args.noted.receipt None (Hold row c.args.listed.body c.args.listed.deposit)
          None (Some c.plan_arrived.new.cache) (Some c.in_ok-plan.plan)).edit refl empty);
    }
