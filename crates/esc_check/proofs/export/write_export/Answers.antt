use Rattle.std.proofs.Common.{ℕ, List, ◌++◌, refl, sym, ap, ◌∙◌, subst, append-nil}
use Rattle.std.specs.Io.KnownBytes.{Appends}
use Rattle.esc_apply.specs.ObjectStreams.{Entry}
use Rattle.esc_csv.specs.Lines.{text_of}
use Rattle.esc_check.specs.Export.{export_lines}
use Rattle.esc_check.specs.WritingLaws.{front_added}
use Rattle.esc_check.proofs.Steps.{came}
use Rattle.esc_check.proofs.Writing.{appended_more, next_object}
use Rattle.esc_check.proofs.export.write_export.Goals as goal

pub loop-heading-init : goal.loop-heading-init
loop-heading-init g c =
    let wrote = c.deref.ensures.value ∙ c.in_ok-heading.ensures in
    record {
      follows = g.met.O.Objects.stays _;
      written = λ honest es lists. (
        es,
        lists,
        (
          c.deref.result.now,
          c.in_ok-write_all.ensures.bytes,
          ap (λ (h : List ℕ). h ++ text_of (export_lines c.args.kind es)) wrote,
        ),
      );
    }

pub loop-heading-preserved : goal.loop-heading-preserved
loop-heading-preserved g c =
    let objects = g.met.O.Objects in
    record {
      follows = objects.goes_on _ _ _ c.loop-heading.invariant.follows c.next.ensures.follows;
      written = λ honest es lists.
          let before = c.loop-heading.invariant.written
          (objects.was_honest _ _ c.next.ensures.follows honest) es lists in
          let gave = came _ _ c.next.result c.map_err.result c.in_ok-key.field-0
          c.map_err.ensures.cases c.in_ok-key.was c.next.ensures.given honest before.0 before.1 in
          let one = rw c.in-Some.is at gave in
          let piece = c.deref-in-Some.ensures.value ∙ c.in_ok-text.ensures in
          let parts =
          next_object c.args.kind (c.in-Some.key, c.in-Some.object) one.0 before.0 one.1
          ∙ ap (λ (t : List ℕ). t ++ text_of (export_lines c.args.kind one.0)) (sym piece) in (
            one.0,
            one.2,
            (
              before.2.0 ++ c.deref-in-Some.result.now,
              appended_more _ _ _ before.2.0 c.deref-in-Some.result.now before.2.1 c.in_ok-write_all-2.ensures.bytes,
              front_added before.2.0 _ _ _ c.deref-in-Some.result.now _ parts before.2.2 refl,
            ),
          );
    }

pub returns-clause-text : goal.returns-clause-text
returns-clause-text g c = λ honest es lists.
    let before = c.loop-heading.invariant.written
    (g.met.O.Objects.was_honest _ _ c.next.ensures.follows honest) es lists in
    let gave = came _ _ c.next.result c.map_err.result c.in_ok-key.field-0
    c.map_err.ensures.cases c.in_ok-key.was c.next.ensures.given honest before.0 before.1 in
    let none = rw c.in_default.is at gave in
    let whole = sym (append-nil before.2.0) ∙ ap (λ (left : List Entry). before.2.0
    ++ text_of (export_lines c.args.kind left)) (sym none.0) ∙ before.2.2 in
    subst (λ (t : List _). Appends (g.W.Write.contents c.args.output.now)
    (g.W.Write.contents c.loop-heading.output) t) whole before.2.1
