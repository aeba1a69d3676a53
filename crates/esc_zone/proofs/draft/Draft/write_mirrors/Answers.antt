use Rattle.std.proofs.Common.{refl, [], ◌++◌, ◌∷◌, ◌∙◌}
use Rattle.esc_apply.specs.ObjectStreams.{Entry}
use Rattle.esc_zone.specs.Drafts.{zone_notes}
use Rattle.esc_zone.specs.Mirrors.{original_notes}
use Rattle.esc_zone.specs.Passes.{IsMirrorText}
use Rattle.esc_zone.proofs.Came.{came}
use Rattle.esc_zone.proofs.Lines.{no_lines, then_lines}
use Rattle.esc_zone.proofs.Passed.{none_yet, one_more, next_done, all_done, mirror_added, none_left}
use Rattle.esc_zone.proofs.draft.Draft.write_mirrors.Goals as goal

pub loop-sheet-init : goal.loop-sheet-init
loop-sheet-init g c =
    let z = zone_notes c.args.self.now in
    let o = original_notes c.args.self.now in
    record {
      follows = g.met.O.Objects.stays _;
      noted = refl;
      originals = refl;
      fresh = c.new-sheet.ensures;
      lines = no_lines _;
      written = λ honest es lists. (es, [], lists, refl, none_yet (IsMirrorText z o) _);
    }

pub returns-in_err-write_mirror-clause-follows : goal.returns-in_err-write_mirror-clause-follows
returns-in_err-write_mirror-clause-follows g c =
    g.met.O.Objects.goes_on _ _ _ c.loop-sheet.invariant.follows c.next.ensures.follows

pub returns-in_err-send-clause-follows : goal.returns-in_err-send-clause-follows
returns-in_err-send-clause-follows g c =
    g.met.O.Objects.goes_on _ _ _ c.loop-sheet.invariant.follows c.next.ensures.follows

pub loop-sheet-preserved : goal.loop-sheet-preserved
loop-sheet-preserved g c =
    let objects = g.met.O.Objects in
    let held = c.loop-sheet.invariant in
    let z = zone_notes c.args.self.now in
    let o = original_notes c.args.self.now in
    let mirror : Entry = (c.in-Some.key, c.in-Some.object) in
    let added = mirror_added z (zone_notes c.loop-sheet.self) o (original_notes c.loop-sheet.self) mirror
    c.loop-sheet.sheet.records c.write_mirror.new.sheet.records held.noted held.originals held.fresh
    c.in_ok-write_mirror.ensures.records in
    record {
      follows = objects.goes_on _ _ _ held.follows c.next.ensures.follows;
      noted = c.in_ok-write_mirror.ensures.noted ∙ held.noted;
      originals = c.in_ok-write_mirror.ensures.originals ∙ held.originals;
      fresh = none_left z c.write_mirror.new.sheet.records _ added.1 c.in_ok-send.ensures.left;
      lines = then_lines _ _ _ held.lines
          (record { text = _; grown = c.in_ok-send.ensures.sent; lines = c.send.ensures.lines });
      written = λ honest es lists.
          let before = held.written (objects.was_honest _ _ c.next.ensures.follows honest) es lists in
          let gave = came _ _ c.next.result c.map_err.result c.in_ok-key.field-0
          c.map_err.ensures.cases c.in_ok-key.was c.next.ensures.given honest before.0 before.2 in
          let one = rw c.in-Some.is at gave in (
            one.0,
            before.1 ++ mirror ∷ [],
            one.2,
            next_done es before.1 before.0 one.0 mirror before.3 one.1,
            one_more (IsMirrorText z o) before.1 mirror _ _ _ _ before.4 added.0 c.in_ok-send.ensures.sent,
          );
    }

pub returns-clause-records : goal.returns-clause-records
returns-clause-records g c = λ honest es lists.
    let held = c.loop-sheet.invariant in
    let before = held.written (g.met.O.Objects.was_honest _ _ c.next.ensures.follows honest) es lists in
    let gave = came _ _ c.next.result c.map_err.result c.in_ok-key.field-0
    c.map_err.ensures.cases c.in_ok-key.was c.next.ensures.given honest before.0 before.2 in
    let none = rw c.in_default.is at gave in
    all_done _ es before.1 before.0 _ _ before.3 none.0 before.4
