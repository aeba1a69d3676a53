use Rattle.std.proofs.Common.{◌-◌, [], ◌++◌, length, take, drop, refl, sym, ◌∙◌, append-nil}
use Rattle.esc_check.specs.Export.{export_text}
use Rattle.esc_http.proofs.ExportLemmas.{on_err_any, stops_before, stops_there, stops_then, hands_then}
use Rattle.esc_http.proofs.ExportLemmas.{lines_behind, rest_of_heading, rest_of_lines}
use Rattle.esc_http.proofs.lines.send_lines.Goals as goal

pub returns-in_err-heading-clause-err : goal.returns-in_err-heading-clause-err
returns-in_err-heading-clause-err g c =
    on_err_any c.from_residual.result
    ([], stops_before _ _ _ refl, λ honest es listed. (export_text c.args.kind es, refl))

pub returns-in_err-add-clause-err : goal.returns-in_err-add-clause-err
returns-in_err-add-clause-err g c =
    let (taken, rest, parts, stops) = c.in_err-add.ensures.err in
    on_err_any c.from_residual-in_err-add.result (
      taken,
      stops,
      λ honest es listed. (
        _,
        rest_of_heading c.args.kind es _ taken rest
            (c.deref.ensures.value ∙ c.in_ok-heading.ensures.text) parts,
      ),
    )

pub returns-in_err-entry-clause-err : goal.returns-in_err-entry-clause-err
returns-in_err-entry-clause-err g c =
    let so_far = c.loop-heading.invariant in
    on_err_any c.from_residual-in_err-entry.result (
      so_far.taken,
      stops_there so_far.hands,
      λ honest es listed.
          let before = g.met.O.Objects.was_honest _ _ c.next.ensures.follows honest in
          let (left, lists, whole) = so_far.written before es listed in (_, sym whole),
    )

pub returns-in_err-text-clause-err : goal.returns-in_err-text-clause-err
returns-in_err-text-clause-err g c =
    let so_far = c.loop-heading.invariant in
    on_err_any c.from_residual-in_err-text.result (
      so_far.taken,
      stops_there so_far.hands,
      λ honest es listed.
          let before = g.met.O.Objects.was_honest _ _ c.next.ensures.follows honest in
          let (left, lists, whole) = so_far.written before es listed in (_, sym whole),
    )

pub returns-in_err-add-2-clause-follows : goal.returns-in_err-add-2-clause-follows
returns-in_err-add-2-clause-follows g c =
    g.met.O.Objects.goes_on _ _ _ c.loop-heading.invariant.follows c.next.ensures.follows

pub returns-in_err-add-2-clause-err : goal.returns-in_err-add-2-clause-err
returns-in_err-add-2-clause-err g c =
    let so_far = c.loop-heading.invariant in
    let (more, rest, parts, stops) = c.in_err-add-2.ensures.err in
    let piece =
    lines_behind c.args.kind c.in-Some.entry
    c.deref.result.now c.deref-in-Some.result.now c.len.result
    (c.deref.ensures.value ∙ c.in_ok-heading.ensures.text)
    (c.deref-in-Some.ensures.value ∙ c.in_ok-text.ensures.text) (c.len.ensures ∙ sym c.deref.ensures.len) in
    on_err_any c.from_residual-in_err-add-2.result (
      so_far.taken ++ more,
      stops_then so_far.hands stops,
      λ honest es listed.
          let before = g.met.O.Objects.was_honest _ _ c.next.ensures.follows honest in
          let (left, lists, whole) = so_far.written before es listed in
          let one = rw c.in-Some.is at c.in_ok-entry.ensures.given honest left lists in (
            _,
            rest_of_lines c.args.kind c.in-Some.entry one.0 left _
                so_far.taken more rest one.1 whole (sym piece ∙ parts),
          ),
    )

pub loop-heading-preserved : goal.loop-heading-preserved
loop-heading-preserved g c =
    let so_far = c.loop-heading.invariant in
    let t = c.deref-in-Some.result.now in
    let n = c.len.result in
    let more = take (length t - n) (drop n t) in
    let piece =
    lines_behind c.args.kind c.in-Some.entry c.deref.result.now t n
    (c.deref.ensures.value ∙ c.in_ok-heading.ensures.text)
    (c.deref-in-Some.ensures.value ∙ c.in_ok-text.ensures.text) (c.len.ensures ∙ sym c.deref.ensures.len) in
    record {
      follows = g.met.O.Objects.goes_on _ _ _ so_far.follows c.next.ensures.follows;
      taken = so_far.taken ++ more;
      hands = hands_then so_far.hands c.in_ok-add-2.ensures.ok;
      written = λ honest es listed.
          let before = g.met.O.Objects.was_honest _ _ c.next.ensures.follows honest in
          let (left, lists, whole) = so_far.written before es listed in
          let one = rw c.in-Some.is at c.in_ok-entry.ensures.given honest left lists in (
            one.0,
            one.2,
            sym (rest_of_lines c.args.kind c.in-Some.entry one.0 left _ so_far.taken more [] one.1
                whole (sym piece ∙ sym (append-nil more))),
          );
    }
