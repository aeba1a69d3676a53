use Rattle.esc_store.proofs.Common.{◌∙◌, Option, None, refl, List, ℕ, sym, ap, subst, arith, IsSome}
use Rattle.esc_store.proofs.Common.{IfOk-at_ok, state, HasCleanDisk, with_body, with_parked, if_ok}
use Rattle.esc_store.proofs.Common.{goes_then}
use Rattle.esc_store.specs.StoreState.{with_adopted}
use Rattle.esc_store.specs.Representation.{HasMadeBooks}
use Rattle.esc_store.proofs.parked.Change+S.adopt.Goals as goal

pub returns-clause-part : goal.returns-clause-part
returns-clause-part g c = record {
  goes_on = goes_then c.find_parked.ensures.follows.goes_on
      (goes_then c.in_ok-hold.ensures.part.goes_on c.unpark.ensures.part.goes_on);
  count = c.unpark.ensures.part.count ∙ c.in_ok-hold.ensures.part.count ∙ c.find_parked.ensures.count;
  makes = if_ok c.unpark.result _ (λ x is clean before k rest.
      let held_clean : HasCleanDisk (state g.S.Store c.hold.new.self.store.now.conn) =
      omega (arith, c.unpark.ensures.part.goes_on.survives.clean, clean) in
      let was : HasCleanDisk (state g.S.Store c.find_parked.new.self.store.now.conn) =
      omega (arith, c.in_ok-hold.ensures.part.goes_on.survives.clean, held_clean) in
      let found = c.in_ok-found.ensures.found was before k rest in
      let held = c.in_ok-hold.ensures.part.makes
      held_clean before k (c.find_parked.ensures.follows.rest before k rest) in
      subst (λ (o : Option (List ℕ)). HasMadeBooks g.S.Store c.unpark.new.self
      before (with_adopted k c.args.row c.args.digest.now o)) (rw c.in-Some.is at found)
      (subst (λ b. HasMadeBooks g.S.Store c.unpark.new.self before
      (with_parked (with_body k c.args.row b) c.args.digest.now None)) c.as_slice.ensures.value
      (IfOk-at_ok _ is c.unpark.ensures.part.makes clean before _ held)));
  holds = if_ok c.unpark.result _ (λ x is s holds. IfOk-at_ok _ is c.unpark.ensures.part.holds
      s (c.in_ok-hold.ensures.part.holds s (c.in_ok-found.ensures.holds s holds)));
}

pub returns-clause-parked : goal.returns-clause-parked
returns-clause-parked g c = if_ok c.unpark.result _ (λ x is clean before k rest.
    let was : HasCleanDisk (state g.S.Store c.find_parked.new.self.store.now.conn) =
    omega (
      arith,
      c.in_ok-hold.ensures.part.goes_on.survives.clean,
      c.unpark.ensures.part.goes_on.survives.clean,
      clean,
    ) in
    let found = c.in_ok-found.ensures.found was before k rest in
    subst (λ (o : Option (List ℕ)). IsSome o) (rw c.in-Some.is at found) refl)
