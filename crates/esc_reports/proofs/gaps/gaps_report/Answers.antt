use Rattle.std.proofs.Common.{◌≡◌, Option, IfSome, ap, ◌∙◌, subst}
use Rattle.std.specs.FinSet as set
use Rattle.std.proofs.lemmas.Result.{IfOk-weaker}
use Rattle.esc_chain.specs.Chain.{Rows}
use Rattle.esc_chain.specs.Gap.{AreGapLinesAt}
use Rattle.esc_reports.specs.GapsText.{gaps_text}
use Rattle.esc_reports.proofs.gaps.gaps_report.Goals as goal

pub returns-clause-text : goal.returns-clause-text
returns-clause-text c =
    let lines = c.in_ok-lines.lines.items in
    let held = subst (λ (o : Option Rows). IfSome o (λ h. h ≡ set.from_list c.args.rows.now))
    c.in_ok-held.ensures.ok_part c.in_ok-from_rows.ensures.held in
    IfOk-weaker c.gaps_text.result _ _ (λ text is. record {
      lines = lines;
      gaps = subst (λ (h : Rows). AreGapLinesAt c.args.manifest.now h c.args.moment lines) held c.in_ok-lines.ensures;
      is = is ∙ ap gaps_text c.deref.ensures.value;
    }) c.gaps_text.ensures.text
