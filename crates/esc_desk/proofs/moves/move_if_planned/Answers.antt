use Rattle.std.proofs.Common.{Option, sym, subst}
use Rattle.std.specs.Prelude.{OnOk, IfOk}
use Rattle.std.proofs.lemmas.Result.{on_ok_weaker, IfOk-weaker}
use Rattle.esc_apply.specs.declared.moves.Work.{Work}
use Rattle.esc_store.specs.StoreState.{StoreState}
use Rattle.esc_store.specs.Representation.{IsHonest, HasMadeBooks, HasMadeTables}
use Rattle.esc_events.specs.declared.plan.Plan.{Plan}
use Rattle.esc_desk.specs.Edits.{chain_deposits, moved_if, IsAtHand, IsFromChainOf, IsCostIf, StaysPut, IsFilled}
use Rattle.esc_desk.proofs.moves.move_if_planned.Goals as goal

pub returns-in-Some-clause-filled : goal.returns-in-Some-clause-filled
returns-in-Some-clause-filled g c =
    subst (λ (o : Option Plan). OnOk
    c.move_by.result ((before k made : StoreState) → IsFromChainOf k o → StaysPut k made
    → IsAtHand c.args.at_hand made.bodies → HasMadeBooks g.S.Store c.args.change.now before made
    → HasMadeTables g.S.Store c.args.change.now k.registry
    → IsFilled g.S.Store c.move_by.new.change before (moved_if o (chain_deposits k) made)))
    (sym c.in-Some.is)
    (on_ok_weaker c.move_by.result (λ filled before k made from stays hand rest stood. filled
    before k made (chain_deposits k) from stays.steps hand rest stood) c.move_by.ensures.filled)

pub returns-in-Some-clause-worked : goal.returns-in-Some-clause-worked
returns-in-Some-clause-worked g c =
    subst (λ (o : Option Plan). IfOk
    c.move_by.result (λ (work : Work). IsHonest g.S.Store c.move_by.new.change.store.now
    → (before k made : StoreState) → IsFromChainOf k o → IsAtHand c.args.at_hand made.bodies
    → HasMadeBooks g.S.Store c.args.change.now before made → HasMadeTables g.S.Store c.args.change.now
    k.registry → IsCostIf o made.bodies (chain_deposits k) work)) (sym c.in-Some.is)
    (IfOk-weaker c.move_by.result _ _ (λ work worked. λ clean before k made from hand rest stood. worked
    clean before k made (chain_deposits k) from hand rest stood) c.move_by.ensures.worked)

pub returns-in-None-clause-filled : goal.returns-in-None-clause-filled
returns-in-None-clause-filled g c =
    subst (λ (o : Option Plan). (before k made : StoreState) → IsFromChainOf k o → StaysPut k made
    → IsAtHand c.args.at_hand made.bodies → HasMadeBooks g.S.Store c.args.change.now before made
    → HasMadeTables g.S.Store c.args.change.now k.registry → IsFilled
    g.S.Store c.args.change.now before (moved_if o (chain_deposits k) made)) (sym c.in-None.is)
    (λ before k made from stays hand rest stood. record {
      tables = made.registry;
      rest = rest;
      holds = λ clean. subst (HasMadeTables g.S.Store c.args.change.now) (sym stays.registry) stood;
    })
