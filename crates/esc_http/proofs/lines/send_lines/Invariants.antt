use Rattle.std.proofs.Common.{◌≡◌, ℕ, List, ◌++◌}
use Rattle.esc_apply.specs.ObjectStreams.{Entry}
use Rattle.esc_csv.specs.Lines.{text_of}
use Rattle.esc_check.specs.Export.{export_lines, export_text}
use Rattle.esc_http.specs.Exports.{HandsOn}
use Rattle.esc_http.proofs.lines.send_lines.Given as goal

-- what was taken, with the lines of the objects that are left, is the whole
abbrev pub invariant-loop-heading : goal.invariant-loop-heading
invariant-loop-heading g l =
    let objects = g.O.Objects in
    let contents = g.W.Sink.contents in
    record {
      follows : objects.follows l.fn.objects l.objects;
      taken : List ℕ;
      hands : HandsOn (contents l.fn.sink) (contents l.sink) l.fn.outbox l.outbox taken;
      written : objects.is_honest l.objects → (es : List Entry) → objects.lists l.fn.objects es
          → (left : List Entry) × objects.lists l.objects left
          × (taken ++ text_of (export_lines l.kind left) ≡ export_text l.kind es);
    }

abbrev pub decreases-loop-heading : goal.decreases-loop-heading
decreases-loop-heading g l = g.O.Objects.bound l.objects
