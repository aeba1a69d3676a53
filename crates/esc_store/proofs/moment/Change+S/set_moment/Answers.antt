use Rattle.esc_store.proofs.Common.{Option, Some, ℤ, sym, subst, IsChangePart}
use Rattle.std.proofs.Common.{rules, w64}
use mir.Val.{SFits}
use Rattle.std.proofs.lemmas.Int.{to_z-of_z}
use Rattle.esc_store.specs.StoreState.{with_moment}
use Rattle.esc_store.specs.StandingLaws.{part_then}
use Rattle.esc_store.proofs.moment.Change+S.set_moment.Goals as goal

pub returns-in-Some-clause-part : goal.returns-in-Some-clause-part
returns-in-Some-clause-part g c =
    let fits : SFits w64 c.in-Some.moment = search rules in
    let put = subst (λ (m : ℤ). IsChangePart g.S.Store
    c.clear_moment.new.self c.put_moment.new.self c.put_moment.result (λ k. with_moment k (Some m)))
    (to_z-of_z w64 c.in-Some.moment fits) c.put_moment.ensures.part in
    subst (λ (m : Option ℤ). IsChangePart g.S.Store c.args.self.now
    c.put_moment.new.self c.put_moment.result (λ k. with_moment k m)) (sym c.in-Some.is)
    (part_then c.in_ok-clear_moment.ensures.part put)
