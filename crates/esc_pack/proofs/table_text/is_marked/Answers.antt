use Rattle.std.proofs.Common.{◌∙◌, sym, arith}
use Rattle.esc_pack.proofs.SectionFacts.{unmarked, marked}
use Rattle.esc_pack.proofs.table_text.is_marked.Goals as goal

pub returns-then-text-lt3-clause-none : goal.returns-then-text-lt3-clause-none
returns-then-text-lt3-clause-none c =
    λ e. unmarked c.args.text.now (λ le. absurd (omega (arith, le, c.if-text-lt3.true)))

pub returns-clause-none : goal.returns-clause-none
returns-clause-none c = λ e. unmarked c.args.text.now (λ le. rw (c.is_mark.ensures) at e)

pub returns-clause-one : goal.returns-clause-one
returns-clause-one c = λ e. marked c.args.text.now (omega (arith, c.if-text-lt3.false)) (sym c.is_mark.ensures ∙ e)
