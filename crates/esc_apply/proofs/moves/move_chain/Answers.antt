use Rattle.std.proofs.Common.{ℕ, ◌+◌, ◌≤◌, ◌++◌, length, take, sum_by, ap₂, subst, ◌∙◌, arith}
use Rattle.std.proofs.Common.{length-take}
use Rattle.esc_apply.specs.Tables.{mention_count}
use Rattle.esc_apply.specs.Images.{chain_state}
use Rattle.esc_apply.specs.Moves.{undone_of, work_of}
use Rattle.esc_apply.proofs.moves.move_chain.Goals as goal

pub returns-clause-moved : goal.returns-clause-moved
returns-clause-moved g c = λ honest k len held.
    let front = c.common_front-front.result in
    let back = c.in_ok-back.ensures.gone
    (g.met.R.Registry.was_honest _ _ c.in_ok-forth.ensures.follows honest) k len held in
    let within : front ≤ length c.args.old.now = c.common_front-front.ensures.longest.common.in_old in
    let moved = c.in_ok-forth.ensures.applied honest (take front k)
    (omega (arith, len, within, length-take front k)) back.0 in
    subst (λ (f : ℕ). g.R.Registry.holds c.apply_all.new.registry
    (chain_state (take f k ++ c.args.deposits.now))) c.common_front-front.ensures.front moved

pub returns-clause-cost : goal.returns-clause-cost
returns-clause-cost g c = λ honest k len held room.
    let ds = c.args.deposits.now in
    let back = c.in_ok-back.ensures.gone
    (g.met.R.Registry.was_honest _ _ c.in_ok-forth.ensures.follows honest) k len held in
    c.work_of.ensures.exact k ds back.1 c.in_ok-forth.ensures.number room
    ∙ ap₂ (λ (f n : ℕ). work_of (length c.args.old.now) f n (sum_by mention_count (undone_of k f)
    + sum_by mention_count ds)) c.common_front-front.ensures.front c.requires.deposits
