use Rattle.esc_sql.proofs.Calls.{◌≡◌, length, subst, tests_first}
use Rattle.esc_sql.proofs.shape.checks_first_is_one.Goals as goal

pub returns : goal.returns
returns c =
    let roots = c.checks.inside.roots in
    let both = tests_first c.checks.inside.nodes
    roots 0 (subst (λ l. length l ≡ 1) c.as_slice.ensures c.if-as_slice-ne1.false) in
    let test = rw (c.as_slice-2.ensures, c.as_slice-3.ensures) at c.is_first_one.ensures in
    rw (← c.checks.view_is) (λ t. both.0 (test.0 t), λ e. test.1 (both.1 e))
