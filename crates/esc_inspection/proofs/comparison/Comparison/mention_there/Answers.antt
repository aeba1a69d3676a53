use Rattle.std.proofs.Common.{◌≡◌, true, refl, sym, ◌∙◌, true≢false, arith}
use Rattle.esc_inspection.proofs.Marking.{marked_there, past_all}
use Rattle.esc_inspection.proofs.comparison.Comparison.mention_there.Goals as goal
use Rattle.esc_inspection.proofs.comparison.Comparison.mention_there.Goals.{then-index, else-index}
use Rattle.esc_inspection.proofs.comparison.Comparison.mention_there.Goals.{then-self, else-self}

pub returns : goal.returns
returns c = λ es k order there.
    marked_there es k c.args.object.now c.args.place _ c.index.result.now c.args.self.now _ order there refl refl
    (λ same. elim c.if-self.branch [
      | then-self w ↦
          let right : c.if-index.is_right ≡ true = sym w.self-is ∙ same in (
            w.if-self.true,
            λ unseen. elim c.if-index.branch [
              | then-index v ↦ absurd (true≢false (sym v.if-index.true ∙ c.index.ensures ∙ unseen))
              | else-index v ↦ v.is_said-is_right.ensures (sym v.is_right-is ∙ right)
            ],
          )
      | else-self w ↦ absurd (true≢false (sym same ∙ w.self-is ∙ w.if-self.false))
    ])

pub returns-then-place-len : goal.returns-then-place-len
returns-then-place-len c = λ es k order there marked said given had. absurd (past_all marked es k c.args.object.now
    c.args.self.now.seen.items c.args.place had.seen there
    (omega (arith, c.len.ensures, c.args.self.now.seen.ok.0, c.if-place-len.true)))
