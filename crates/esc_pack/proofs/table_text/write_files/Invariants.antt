use Rattle.std.proofs.Common.{◌≡◌, ◌++◌, take, length, true, All}
use Rattle.std.specs.List.{list_all, flat_map}
use Rattle.esc_csv.specs.Lines.{text_of}
use Rattle.esc_pack.specs.GivenRows.{file_rows, has_width, IsHeaded}
use Rattle.esc_pack.proofs.table_text.write_files.Given as goal

-- what was written of the files so far
abbrev pub invariant-loop-at : goal.invariant-loop-at
invariant-loop-at l = record {
  written : l.lines ≡ l.fn.lines ++ text_of (flat_map (file_rows l.given.has_heading) (take l.at l.given.files));
  whole : list_all (has_width (length l.table.fields))
      (flat_map (file_rows l.given.has_heading) (take l.at l.given.files)) ≡ true;
  headed : l.given.has_heading ≡ true → All (IsHeaded l.table) (take l.at l.given.files);
}
