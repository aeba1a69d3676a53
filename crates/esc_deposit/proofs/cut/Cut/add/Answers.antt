use Rattle.std.proofs.Common.{inl, inr, List, ℕ, ◌++◌, ◌∷◌, [], subst, sym, ◌∙◌, true≢false, arith}
use Rattle.esc_deposit.specs.CutSoFar.{IsCutSoFar}
use Rattle.esc_deposit.proofs.Cutting.{to_last, to_next}
use Rattle.esc_deposit.proofs.cut.Cut.add.Goals as goal
use Rattle.esc_deposit.proofs.cut.Cut.add.Goals.{then-self-eq0-via-then-self-eq0}
use Rattle.esc_deposit.proofs.cut.Cut.add.Goals.{then-self-eq0-via-else-self-eq0+then-is_within}

pub returns-then-self-eq0 : goal.returns-then-self-eq0
returns-then-self-eq0 c = λ es e rows bytes far.
    to_last e c.args.one rows bytes es _ c.args.self.now.length c.args.self.now.size c.with-size.result far
    c.with-size.ensures.rows c.with-size.ensures.bytes c.saturating_add-self.result (omega arith)
    (elim c.then-self-eq0.branch [
      | then-self-eq0-via-then-self-eq0 w ↦ inl w.if-self-eq0.true
      | then-self-eq0-via-else-self-eq0+then-is_within w ↦ inr (w.is_within.ensures.0 w.if-is_within.true)
    ])

pub returns : goal.returns
returns c = λ es e rows bytes far.
    subst (λ (l : List ℕ). IsCutSoFar (es ++ e ∷ []) l 1 c.args.one) (sym c.in_ok-push.ensures.items)
    (to_next e c.args.one rows bytes es _ c.args.self.now.length c.args.self.now.size c.with-size.result far
    c.with-size.ensures.rows c.with-size.ensures.bytes c.if-self-eq0.false
    (λ within. true≢false (sym (c.is_within.ensures.1 within) ∙ c.if-is_within.false)))
