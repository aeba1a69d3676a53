use Rattle.std.proofs.Common.{◌≡◌, ℕ, ◌+◌, ◌++◌, ◌∷◌, [], List, Option, length, take, sum_by}
use Rattle.std.proofs.Common.{sym, ap, subst, ◌∙◌, arith, append_assoc, append-nil, length-append}
use Rattle.std.proofs.lemmas.List.Sums.{sum_by_push}
use Rattle.esc_tables.specs.DepositValue.{DepositValue}
use Rattle.esc_tables.specs.Reading.{reading}
use Rattle.esc_apply.specs.Images.{chain_state}
use Rattle.esc_apply.specs.Registry.{saturated}
use Rattle.esc_apply.specs.Tables.{mention_count}
use Rattle.esc_store.specs.Representation.{HasMadeTables}
use Rattle.esc_store.specs.StandingLaws.{follows_same, follows_then, was_clean}
use Rattle.esc_events.specs.Plans.{rows_in_steps}
use Rattle.esc_events.specs.StateAfter.{deposit_of, deposits_of}
use Rattle.esc_desk.proofs.PlanLemmas.{deposits_count, deposits_more}
use Rattle.esc_desk.proofs.moves.apply_held.Goals as goal

-- the writes of one deposit more
one_more_sum : (ds more : List DepositValue) (d : DepositValue) (before now writes : ℕ)
    → more ≡ ds ++ d ∷ [] → before ≡ saturated (sum_by mention_count ds)
    → now ≡ mention_count d → writes ≡ saturated (before + now)
    → writes ≡ saturated (sum_by mention_count more)
one_more_sum ds more d before now writes is so_far made sum =
    omega (arith, ap (sum_by mention_count) is ∙ sum_by_push mention_count ds d, so_far, made, sum)

-- the count of one step more
one_more_count : (first was now before n writes : ℕ) → was ≡ saturated (saturated first + before) → now
    ≡ saturated (was + n) → writes ≡ saturated (before + n) → now ≡ saturated (saturated first + writes)
one_more_count first was now before n writes so_far made sum = omega (arith, so_far, made, sum)

-- the number of the next step
next_step : (held ds : List DepositValue) (front i pos : ℕ)
    → length held ≡ front → length ds ≡ i → pos ≡ front + i → length (held ++ ds) + 1 ≡ pos + 1
next_step held ds front i pos len count at = omega (arith, length-append held ds, len, count, at)

pub loop-step-init : goal.loop-step-init
loop-step-init g c = record {
  at = omega arith;
  follows = follows_same g.S.Store c.args.change.now;
  left = λ bodies hand. hand;
  counted = omega arith;
  number = λ clean before k hand rest. omega arith;
  applied = λ clean before k held len hand rest stood. subst (λ (ds : List DepositValue). HasMadeTables
      g.S.Store c.args.change.now (chain_state ds)) (sym (append-nil held)) stood;
}

pub loop-step-preserved : goal.loop-step-preserved
loop-step-preserved g c =
    let now = c.loop-step.invariant in
    let made = c.in_ok-more.ensures in
    let steps = c.args.steps.now in
    let i = c.loop-step.step-index in
    let f = λ (bodies : ℕ → Option (List ℕ)) (r : ℕ). deposit_of reading (bodies r) in
    record {
      at = omega (arith, now.at);
      follows = follows_then now.follows made.follows;
      left = λ bodies hand. made.left bodies (now.left bodies hand);
      counted = one_more_count _ _ _ c.loop-step.writes
          c.in_ok-more.more _ now.counted made.counted c.saturating_add-writes.ensures;
      number = λ clean before k hand rest.
          one_more_sum (deposits_of reading k.bodies (rows_in_steps (take i steps)))
          _ _ _ _ _ (deposits_more (f k.bodies) steps i _ c.loop-step-test.true)
          (now.number (was_clean made.follows.goes_on.survives clean) before k hand rest)
          (made.number clean before k (now.left k.bodies hand) (now.follows.rest before k rest))
          c.saturating_add-writes.ensures;
      applied = λ clean before k held len hand rest stood.
          let ds = deposits_of reading k.bodies (rows_in_steps (take i steps)) in
          let so_far = now.applied (was_clean made.follows.goes_on.survives clean) before k held len hand rest stood in
          let at = next_step held ds c.args.front
          i c.loop-step.pos len (deposits_count (f k.bodies) steps i (omega arith)) now.at in
          let longer = made.applied clean before k (held ++ ds) at (now.left k.bodies hand)
          (now.follows.rest before k rest) so_far in
          subst (λ (es : List DepositValue). HasMadeTables g.S.Store c.apply_row.new.change (chain_state es))
          (append_assoc held ds _ ∙ ap (λ (es : List DepositValue). held ++ es)
          (sym (deposits_more (f k.bodies) steps i _ c.loop-step-test.true))) longer;
    }
