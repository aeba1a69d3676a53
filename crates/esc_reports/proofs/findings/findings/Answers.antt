use Rattle.std.proofs.Common.{rules, ℤ, ◌↔◌, w64, subst, List, None}
use mir.Val.{SFits}
use Rattle.std.specs.List.{Contains}
use Rattle.std.proofs.lemmas.Int.{to_z-of_z}
use Rattle.esc_check.specs.FindingValue.{FindingValue}
use Rattle.esc_check.specs.Findings.{IsFinding}
use Rattle.esc_check.specs.TableMap.{content_of_entries}
use Rattle.esc_apply.specs.ObjectStreams.{Entry}
use Rattle.esc_desk.specs.WalkCalls.{walked_by, place_of}
use Rattle.esc_desk.specs.Walking.{of_kinds}
use Rattle.esc_reports.proofs.Reading.{walked_ill, walked_well}
use Rattle.esc_reports.proofs.Listed.{listing}
use Rattle.esc_reports.proofs.findings.findings.Goals as goal

pub returns-in-Ok-clause-findings : goal.returns-in-Ok-clause-findings
returns-in-Ok-clause-findings g c = λ clean e serves apart.
    let laws = g.met.R.Reads in
    let state = laws.stands_for _ e serves in
    let at_end : g.R.Reads.is_honest (walked_by c.read_findings.new.objects) = search rules in
    let entries = listing e state.kept
    c.tables_are_listed.ensures c.tables_are_of_events.ensures state.stands_for apart in
    let walk = c.new-walk.ensures in
    let at_walk = subst g.R.Reads.is_honest walk.same (laws.was_honest _ _ c.in-Ok.ensures.follows.same at_end) in
    let listed : List Entry = of_kinds None entries.0 in
    let lists : g.R.Reads.lists (walked_by c.new-walk.result) (place_of c.new-walk.result) listed =
    rw (walk.same, walk.place)
    (c.in_ok-place.ensures.lists at_walk e serves apart entries.0 entries.1 entries.2) in
    let w = c.args.end.now.watermark in
    let fits : SFits w64 w = search rules in
    let each : (f : FindingValue) → Contains c.in-Ok.findings.items f
    ↔ IsFinding (content_of_entries entries.0) w c.args.end.now.counts.entries f =
    subst (λ (z : ℤ). (f : FindingValue) → Contains c.in-Ok.findings.items f
    ↔ IsFinding (content_of_entries entries.0) z c.args.end.now.counts.entries f)
    (to_z-of_z w64 w fits) (c.in-Ok.ensures.each at_end entries.0 lists) in
    (entries.0, entries.1, (c.in-Ok.ensures.ordered, each))

pub returns-in-Ok-clause-read : goal.returns-in-Ok-clause-read
returns-in-Ok-clause-read g c = search (rules, walked_well, g.met.R.Reads.goes_on)

pub returns-in-Ok-2-clause-read : goal.returns-in-Ok-2-clause-read
returns-in-Ok-2-clause-read g c = search (rules, walked_ill, g.met.R.Reads.goes_on)

pub returns-clause-read : goal.returns-clause-read
returns-clause-read g c = search (rules, walked_ill, g.met.R.Reads.goes_on)
