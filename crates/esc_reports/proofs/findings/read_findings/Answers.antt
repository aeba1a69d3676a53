use Rattle.std.proofs.Common.{rules, ℤ, ◌↔◌, w64, subst}
use mir.Val.{SFits}
use Rattle.std.specs.List.{Contains}
use Rattle.std.proofs.lemmas.Int.{to_z-of_z}
use Rattle.std.proofs.lemmas.Result.{IfOk-weaker}
use Rattle.esc_check.specs.FindingValue.{FindingValue}
use Rattle.esc_check.specs.Findings.{IsFinding}
use Rattle.esc_check.specs.TableMap.{content_of_entries}
use Rattle.esc_progress.specs.Watching.{watched_in}
use Rattle.esc_reports.proofs.findings.read_findings.Goals as goal

pub returns-clause-each : goal.returns-clause-each
returns-clause-each g c =
    let w = c.args.watermark in
    let fits : SFits w64 w = search rules in
    IfOk-weaker c.verify_from.result _ _ (λ found each honest es lists.
    let at_end : g.O.Objects.is_honest (watched_in c.verify_from.new.objects) = search rules in
    let there : g.O.Objects.lists (watched_in c.new-watched.result) es = rw c.new-watched.ensures.same lists in
    subst (λ (z : ℤ). (f : FindingValue) → Contains found.items f
    ↔ IsFinding (content_of_entries es) z c.args.counts.now.entries f)
    (to_z-of_z w64 w fits) (each at_end es there)) c.verify_from.ensures.each
