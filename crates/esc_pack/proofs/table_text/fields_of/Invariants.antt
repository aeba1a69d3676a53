use Rattle.std.proofs.Common.{◌≡◌, map, take}
use Rattle.esc_pack.proofs.table_text.fields_of.Given as goal

-- the fields so far
abbrev pub invariant-loop-place : goal.invariant-loop-place
invariant-loop-place l = map (λ f. f.now) l.fields.items ≡ take l.place l.line
