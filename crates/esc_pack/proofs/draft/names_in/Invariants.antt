use Rattle.std.proofs.Common.{◌≡◌, map, take, filter_map, string_bytes}
use Rattle.esc_pack.specs.Describing.{name_in}
use Rattle.esc_pack.proofs.draft.names_in.Given as goal

-- the names of the files so far
abbrev pub invariant-loop-file : goal.invariant-loop-file
invariant-loop-file l =
    map string_bytes l.names.items ≡ filter_map (name_in l.table l.fields) (take l.file-index l.files)
