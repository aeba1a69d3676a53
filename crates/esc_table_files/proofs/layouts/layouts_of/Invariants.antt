use Rattle.std.proofs.Common.{◌≡◌, List, map}
use Rattle.std.specs.List.{flat_map}
use Rattle.esc_apply.specs.ObjectStreams.{Entry}
use Rattle.esc_table_files.specs.Layouts.{names_in, kind_layouts}
use Rattle.esc_table_files.specs.Gathering.{with_tables, finished}
use Rattle.esc_table_files.proofs.layouts.layouts_of.Given as goal

-- with the objects that are left it is the whole
abbrev pub invariant-loop-layouts : goal.invariant-loop-layouts
invariant-loop-layouts g l =
    let objects = g.O.Objects in
    record {
      follows : objects.follows l.fn.objects l.objects;
      gathered : objects.is_honest l.objects → (es : List Entry) → objects.lists l.fn.objects es
          → (left : List Entry) × objects.lists l.objects left
          × (map (finished left) (with_tables l.kind l.layouts.items (flat_map (names_in l.kind) left))
          ≡ kind_layouts l.kind es);
    }

abbrev pub decreases-loop-layouts : goal.decreases-loop-layouts
decreases-loop-layouts g l = g.O.Objects.bound l.objects
