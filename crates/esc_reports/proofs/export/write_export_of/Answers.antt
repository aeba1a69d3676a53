use Rattle.std.proofs.Common.{rules, refl, subst, List, Some}
use Rattle.std.specs.Io.KnownBytes.{Appends}
use Rattle.esc_check.specs.Export.{export_text}
use Rattle.esc_apply.specs.ObjectStreams.{Entry}
use Rattle.esc_desk.specs.WalkCalls.{walked_by, place_of}
use Rattle.esc_desk.specs.Walking.{of_kinds}
use Rattle.esc_reports.proofs.Reading.{walked_ill, walked_well}
use Rattle.esc_reports.proofs.Listed.{listing, export_of_kind}
use Rattle.esc_reports.proofs.export.write_export_of.Goals as goal

pub returns-in-Ok-write_export-clause-text : goal.returns-in-Ok-write_export-clause-text
returns-in-Ok-write_export-clause-text g c = λ clean e serves apart.
    let laws = g.met.R.Reads in
    let state = laws.stands_for _ e serves in
    let at_end : g.R.Reads.is_honest (walked_by c.write_export.new.objects) = search rules in
    let entries = listing e state.kept
    c.tables_are_listed.ensures c.tables_are_of_events.ensures state.stands_for apart in
    let walk = c.new-walk.ensures in
    let at_walk = subst g.R.Reads.is_honest
    walk.same (laws.was_honest _ _ c.in-Ok-write_export.ensures.follows.same at_end) in
    let listed : List Entry = of_kinds (Some c.args.kind) entries.0 in
    let lists : g.R.Reads.lists (walked_by c.new-walk.result) (place_of c.new-walk.result) listed =
    rw (walk.same, walk.place)
    (c.in-Ok.ensures.lists at_walk e serves apart entries.0 entries.1 entries.2) in
    record {
      text = export_text c.args.kind entries.0;
      is_export = record { entries = entries.0; tables = entries.1; order = entries.2; is = refl };
      appends = subst (λ (t : List _). Appends (g.W.Write.contents c.args.output.now)
          (g.W.Write.contents c.write_export.new.output) t) (export_of_kind c.args.kind entries.0)
          (c.in-Ok-write_export.ensures.text at_end listed lists);
    }

pub returns-in-Ok-write_export-clause-read : goal.returns-in-Ok-write_export-clause-read
returns-in-Ok-write_export-clause-read g c = search (rules, walked_well, g.met.R.Reads.goes_on)

pub returns-in-Ok-2-clause-read : goal.returns-in-Ok-2-clause-read
returns-in-Ok-2-clause-read g c = search (rules, walked_ill, g.met.R.Reads.goes_on)

pub returns-clause-read : goal.returns-clause-read
returns-clause-read g c = search (rules, walked_ill, g.met.R.Reads.goes_on)
