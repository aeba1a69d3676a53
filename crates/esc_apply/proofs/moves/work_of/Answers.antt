use Rattle.std.proofs.Common.{◌≡◌, ℕ, ◌+◌, ◌<◌, ◌≤◌, ◌^◌, ◌++◌, Bool, true, false, cond}
use Rattle.std.proofs.Common.{List, [], length, drop, sum_by, ap, ◌∙◌, arith}
use Rattle.std.proofs.lemmas.List.Sums.{sum_by-take-drop, sum_by-append}
use Rattle.esc_tables.specs.DepositValue.{DepositValue}
use Rattle.esc_apply.specs.Tables.{mention_count}
use Rattle.esc_apply.specs.Registry.{saturated}
use Rattle.esc_apply.specs.Moves.{is_cleared, undone_of, work_of}
use Rattle.esc_apply.proofs.moves.work_of.Goals as goal

undone_sum : (k : List DepositValue) (f : ℕ) → sum_by mention_count (undone_of k f) ≤ sum_by mention_count k
undone_sum k f = by_test (is_cleared (length k) f)
  where
    by_test : (t : Bool) → sum_by mention_count (cond t [] (drop f k)) ≤ sum_by mention_count k
    by_test true = omega arith
    by_test false = omega (arith, sum_by-take-drop mention_count k f)

-- the writes, where there is room for all mentions
exact_writes : (k ds : List DepositValue) (f back forth writes : ℕ) → back
    ≡ saturated (sum_by mention_count (undone_of k f)) → forth ≡ saturated (sum_by mention_count ds)
    → writes ≡ saturated (back + forth) → sum_by mention_count (k ++ ds) < 2 ^ 64
    → writes ≡ sum_by mention_count (undone_of k f) + sum_by mention_count ds
exact_writes k ds f back forth writes undone applied sum room =
    omega (arith, undone_sum k f, sum_by-append mention_count k ds, undone, applied, sum, room)

pub returns-clause-exact : goal.returns-clause-exact
returns-clause-exact c = λ k ds undone applied room.
    c.work_with.ensures ∙ ap (work_of c.args.steps c.args.front c.args.applied)
    (exact_writes k ds c.args.front _ _ _ undone applied c.saturating_add.ensures room)
