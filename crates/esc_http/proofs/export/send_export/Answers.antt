use Rattle.std.proofs.Common.{List, Some, [], rules, refl, subst, ◌∙◌, sym}
use Rattle.std.proofs.lemmas.Result.{on_ok_weaker, on_err_weaker, IfErr-weaker}
use Rattle.esc_apply.specs.ObjectStreams.{Entry}
use Rattle.esc_check.specs.Export.{export_text}
use Rattle.esc_desk.specs.WalkCalls.{walked_by, place_of}
use Rattle.esc_desk.specs.Walking.{of_kinds}
use Rattle.esc_http.proofs.ExportLemmas.{on_err_any, stops_before, walked, export_of_kind, cut_by}
use Rattle.esc_http.proofs.export.send_export.Goals as goal

pub returns-in_err-place-clause-err : goal.returns-in_err-place-clause-err
returns-in_err-place-clause-err g c =
    on_err_any c.from_residual.result
    ([], stops_before _ _ _ refl, λ honest e reflects apart es entries order. (export_text c.args.kind es, refl))

pub returns-clause-follows : goal.returns-clause-follows
returns-clause-follows g c = search (rules, walked, g.met.R.Reads.goes_on)

pub returns-clause-cause : goal.returns-clause-cause
returns-clause-cause g c =
    IfErr-weaker c.send_lines.result _ _ (λ fault cut. cut_by _ fault cut) c.send_lines.ensures.cause

pub returns-clause-ok : goal.returns-clause-ok
returns-clause-ok g c =
    on_ok_weaker c.send_lines.result (λ sent. (
      sent.0,
      sent.1,
      λ honest e reflects apart es entries order.
          let laws = g.met.R.Reads in
          let at_end : g.R.Reads.is_honest (walked_by c.send_lines.new.objects) = search rules in
          let walk = c.new-walk.ensures in
          let at_walk = subst g.R.Reads.is_honest
          walk.same (laws.was_honest _ _ c.send_lines.ensures.follows.same at_end) in
          let listed : List Entry = of_kinds (Some c.args.kind) es in
          let lists : g.R.Reads.lists (walked_by c.new-walk.result) (place_of c.new-walk.result) listed =
          rw (walk.same, walk.place) (c.in_ok-place.ensures.lists at_walk e reflects apart es entries order) in
          sent.2 at_end listed lists ∙ export_of_kind c.args.kind es,
    )) c.send_lines.ensures.ok

pub returns-clause-err : goal.returns-clause-err
returns-clause-err g c =
    on_err_weaker c.send_lines.result (λ sent. (
      sent.0,
      sent.1,
      λ honest e reflects apart es entries order.
          let laws = g.met.R.Reads in
          let at_end : g.R.Reads.is_honest (walked_by c.send_lines.new.objects) = search rules in
          let walk = c.new-walk.ensures in
          let at_walk = subst g.R.Reads.is_honest
          walk.same (laws.was_honest _ _ c.send_lines.ensures.follows.same at_end) in
          let listed : List Entry = of_kinds (Some c.args.kind) es in
          let lists : g.R.Reads.lists (walked_by c.new-walk.result) (place_of c.new-walk.result) listed =
          rw (walk.same, walk.place) (c.in_ok-place.ensures.lists at_walk e reflects apart es entries order) in
          let parts = sent.2 at_end listed lists in
          (parts.0, sym (export_of_kind c.args.kind es) ∙ parts.1),
    )) c.send_lines.ensures.err
