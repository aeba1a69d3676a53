use Rattle.esc_store.proofs.Common.{survives_same, ◌∙◌, ap, map, listed_row, Represents, LeavesOnly, LeavesOr}
use Rattle.std.proofs.Common.{rules}
use Rattle.esc_store.proofs.store.Store.create.Goals as goal

pub returns-in-Err-clause-crash : goal.returns-in-Err-clause-crash
unfolding LeavesOr
returns-in-Err-clause-crash g c = survives_same

pub returns-in-Ok-found_here : goal.returns-in-Ok-found_here
unfolding Represents LeavesOnly LeavesOr
returns-in-Ok-found_here g c =
    let rows = ap (map listed_row) c.as_slice.ensures.value ∙ c.in-Ok.ensures.rows in search rules

pub returns-in-Err-found_here-clause-crash : goal.returns-in-Err-found_here-clause-crash
unfolding LeavesOr
returns-in-Err-found_here-clause-crash g c = c.found_here.ensures.survives
    c.args.manifest.now (ap (map listed_row) c.as_slice.ensures.value ∙ c.in-Ok.ensures.rows)

pub returns-then-not-is_unused-clause-crash : goal.returns-then-not-is_unused-clause-crash
unfolding LeavesOr
returns-then-not-is_unused-clause-crash g c = survives_same
