use Rattle.std.proofs.Common.{◌≡◌, ◌++◌, [], List}
use Rattle.esc_apply.specs.ObjectStreams.{Entry}
use Rattle.esc_zone.specs.Drafts.{zone_notes}
use Rattle.esc_zone.specs.Mirrors.{original_notes}
use Rattle.esc_zone.specs.Passes.{zone_lines, IsMirrorText, AppendsEach}
use Rattle.esc_zone.specs.Records.{AppendsLines}
use Rattle.esc_zone.proofs.draft.Draft.write_mirrors.Given as goal

-- what is written is what the objects that came add
abbrev pub invariant-loop-sheet : goal.invariant-loop-sheet
invariant-loop-sheet g l =
    let objects = g.O.Objects in
    let z = zone_notes l.fn.self in
    let o = original_notes l.fn.self in
    record {
      follows : objects.follows l.fn.objects l.objects;
      noted : zone_notes l.self ≡ z;
      originals : original_notes l.self ≡ o;
      fresh : l.sheet.records ≡ zone_lines z [];
      lines : AppendsLines (g.Z.Write.contents l.fn.zone) (g.Z.Write.contents l.zone);
      written : objects.is_honest l.objects → (es : List Entry) → objects.lists l.fn.objects es
          → (left done : List Entry) × objects.lists l.objects left × (es ≡ done ++ left)
          × AppendsEach (IsMirrorText z o) done (g.Z.Write.contents l.fn.zone) (g.Z.Write.contents l.zone);
    }

abbrev pub decreases-loop-sheet : goal.decreases-loop-sheet
decreases-loop-sheet g l = g.O.Objects.bound l.objects
