use Rattle.std.proofs.Common.{List, ◌++◌, sym, ap, ◌∙◌, append-nil}
use Rattle.std.proofs.lemmas.List.{drop_all}
use Rattle.esc_reports.specs.LinksText.{findings_text}
use Rattle.esc_check.specs.WritingLaws.{front_added}
use Rattle.esc_reports.proofs.Pieces.{findings_more}
use Rattle.esc_reports.proofs.links.write_findings.Goals as goal

pub loop-finding-preserved : goal.loop-finding-preserved
loop-finding-preserved c =
    front_added _ _ _ _ _ _ (findings_more c.args.findings.now
    c.loop-finding.finding-index c.finding-item.result c.loop-finding-test.true c.finding-item.is)
    c.loop-finding.invariant c.in_ok-write_finding.ensures

pub returns : goal.returns
returns c =
    sym (append-nil _) ∙ ap (λ (findings : List _). c.loop-finding.lines ++ findings_text findings)
    (sym (drop_all _ _ c.loop-finding-test.false)) ∙ c.loop-finding.invariant
