use Rattle.std.proofs.Common.{◌≡◌, [], take, filter_map}
use Rattle.esc_pack.specs.Describing.{heading_in}
use Rattle.esc_pack.proofs.draft.fields_in.Given as goal

-- no file so far has a heading
abbrev pub invariant-loop-file : goal.invariant-loop-file
invariant-loop-file l = filter_map (heading_in l.table) (take l.file-index l.files) ≡ []
