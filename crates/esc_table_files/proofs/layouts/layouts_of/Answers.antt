use Rattle.std.proofs.Common.{List, map, sym, ap, ◌∙◌}
use Rattle.std.specs.List.{flat_map}
use Rattle.esc_apply.specs.ObjectStreams.{Entry}
use Rattle.esc_table_files.specs.Layouts.{LayoutValue, names_in}
use Rattle.esc_table_files.specs.Gathering.{with_tables, finished}
use Rattle.esc_table_files.proofs.Came.{came}
use Rattle.esc_table_files.proofs.Gathered.{none_left}
use Rattle.esc_table_files.proofs.KindTables.{all_to_come, object_gathered}
use Rattle.esc_table_files.proofs.layouts.layouts_of.Goals as goal

pub loop-layouts-init : goal.loop-layouts-init
loop-layouts-init g c = record {
  follows = g.met.O.Objects.stays _;
  gathered = λ honest es lists.
      let kind = c.args.kind in (
        es,
        lists,
        ap (λ (ls : List LayoutValue). map (finished es) (with_tables
            kind ls (flat_map (names_in kind) es))) c.in_ok-layouts.ensures ∙ all_to_come kind es,
      );
}

pub returns-in_err-add_object-clause-follows : goal.returns-in_err-add_object-clause-follows
returns-in_err-add_object-clause-follows g c =
    g.met.O.Objects.goes_on _ _ _ c.loop-layouts.invariant.follows c.next.ensures.follows

pub loop-layouts-preserved : goal.loop-layouts-preserved
loop-layouts-preserved g c =
    let objects = g.met.O.Objects in
    record {
      follows = objects.goes_on _ _ _ c.loop-layouts.invariant.follows c.next.ensures.follows;
      gathered = λ honest es lists.
          let before = c.loop-layouts.invariant.gathered
          (objects.was_honest _ _ c.next.ensures.follows honest) es lists in
          let gave = came _ _ c.next.result c.map_err.result c.in_ok-key.field-0
          c.map_err.ensures.cases c.in_ok-key.was c.next.ensures.given honest before.0 before.1 in
          let one = rw c.in-Some.is at gave in
          let kind = c.args.kind in
          let old = c.loop-layouts.layouts.items in
          let whole = λ (left : List Entry) (ls : List LayoutValue). map (finished left)
          (with_tables kind ls (flat_map (names_in kind) left)) in (
            one.0,
            one.2,
            ap (whole one.0) c.in_ok-add_object.ensures
                ∙ object_gathered kind (c.in-Some.key, c.in-Some.object) one.0 old
                ∙ ap (λ (left : List Entry). whole left old) (sym one.1)
                ∙ before.2,
          );
    }

pub returns-clause-layouts : goal.returns-clause-layouts
returns-clause-layouts g c = λ honest es lists.
    let before = c.loop-layouts.invariant.gathered
    (g.met.O.Objects.was_honest _ _ c.next.ensures.follows honest) es lists in
    let gave = came _ _ c.next.result c.map_err.result c.in_ok-key.field-0
    c.map_err.ensures.cases c.in_ok-key.was c.next.ensures.given honest before.0 before.1 in
    let none = rw c.in_default.is at gave in
    let kind = c.args.kind in
    let now = c.loop-layouts.layouts.items in
    sym (none_left now)
    ∙ ap (λ (left : List Entry). map (finished left)
    (with_tables kind now (flat_map (names_in kind) left))) (sym none.0)
    ∙ before.2
