use Rattle.std.proofs.Common.{◌≡◌, take, filter_map}
use Rattle.esc_pack.specs.Describing.{draft_of}
use Rattle.esc_pack.proofs.draft.drafts_of.Given as goal

-- the tables so far
abbrev pub invariant-loop-table : goal.invariant-loop-table
invariant-loop-table l = l.drafts.items ≡ filter_map (draft_of l.files) (take l.table-index l.tables)
