use Rattle.std.proofs.Common.{List, ◌++◌, sym, ap, ◌∙◌, append-nil}
use Rattle.std.proofs.lemmas.List.{drop_all}
use Rattle.esc_reports.specs.GapsText.{gap_lines_text}
use Rattle.esc_check.specs.WritingLaws.{front_added}
use Rattle.esc_reports.proofs.Pieces.{gap_lines_more}
use Rattle.esc_reports.proofs.gaps.write_lines.Goals as goal

pub loop-gap-preserved : goal.loop-gap-preserved
loop-gap-preserved c =
    front_added _ _ _ _ _ _ (gap_lines_more c.args.gaps.now c.loop-gap.gap-index c.gap-item.result
    c.loop-gap-test.true c.gap-item.is) c.loop-gap.invariant c.in_ok-write_line.ensures.written

pub returns-clause-written : goal.returns-clause-written
returns-clause-written c =
    sym (append-nil _) ∙ ap (λ (gaps : List _). c.loop-gap.lines ++ gap_lines_text gaps)
    (sym (drop_all _ _ c.loop-gap-test.false)) ∙ c.loop-gap.invariant
