use Rattle.esc_sql.proofs.Calls.{rules, ◌≡◌, Some, None, slice_get, if_goes, read_then, last_is, none_is}
use Rattle.esc_sql.proofs.receipt.last_receipt.Goals as goal

pub returns-in-Some : goal.returns-in-Some
returns-in-Some g c =
    let first : slice_get c.in_ok-rows.rows.items 0 ≡ Some c.in-Some.row.now = search rules in
    record {
      read = read_then c.in_ok-rows.ensures.read (λ db x h shows. if_goes
          c.get.result _ _ c.get.ensures.ok (λ n is. last_is x _ _ n shows first is.1));
    }

pub returns : goal.returns
returns g c =
    let none : slice_get c.in_ok-rows.rows.items 0 ≡ None = search rules in
    record { read = read_then c.in_ok-rows.ensures.read (λ db x h shows. none_is x _ shows none) }
