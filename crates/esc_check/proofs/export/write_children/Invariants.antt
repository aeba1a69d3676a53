use Rattle.std.proofs.Common.{◌≡◌, [], ◌++◌, take, drop}
use Rattle.std.specs.Prelude.{count_by}
use denote.Text.{Utf8}
use denote.Shadow.{shadow}
use Rattle.esc_csv.specs.Lines.{text_of}
use Rattle.esc_check.specs.Export.{is_of_table, child_lines}
use Rattle.esc_check.proofs.export.write_children.Given as goal

abbrev pub invariant-loop-index : goal.invariant-loop-index
invariant-loop-index l =
    (l.lines ++ text_of (child_lines l.key (take l.index l.children) (drop l.index l.children))
    ≡ l.fn.lines ++ text_of (child_lines l.key [] l.children))
    × (l.number ≡ count_by (is_of_table l.table) (take l.index l.children)) × shadow (Utf8 l.table)
