use Rattle.std.proofs.Common.{◌≡◌, map, take, string_bytes}
use Rattle.esc_pack.specs.KnownFields.{desk_field}
use Rattle.esc_pack.proofs.heading.desk_names.Given as goal

-- the names so far
abbrev pub invariant-loop-place : goal.invariant-loop-place
invariant-loop-place l = map string_bytes l.names.items ≡ map (desk_field l.table) (take l.place l.row)
