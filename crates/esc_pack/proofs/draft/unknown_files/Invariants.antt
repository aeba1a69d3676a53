use Rattle.std.proofs.Common.{◌≡◌, take, filter_map}
use Rattle.esc_pack.specs.Describing.{unknown_of}
use Rattle.esc_pack.proofs.draft.unknown_files.Given as goal

-- the files so far that aren't named
abbrev pub invariant-loop-file : goal.invariant-loop-file
invariant-loop-file l = l.unknown.items ≡ filter_map (unknown_of l.files) (take l.file-index l.files)
