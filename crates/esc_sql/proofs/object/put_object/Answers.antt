use Rattle.esc_sql.proofs.Calls.{arith, rules, parts, part_as, refused, then_part, update_part, puts_set, puts_new}
use Rattle.esc_sql.proofs.object.put_object.Goals as goal

pub returns-in_err-updated : goal.returns-in_err-updated
returns-in_err-updated g c = record {
  part = refused (update_part
      c.args.kind c.args.key.now c.args.bytes.now g.S.Store c.in_err-updated.ensures (search rules))
      c.from_residual.ensures.0;
}

pub returns-in_err-insert_object : goal.returns-in_err-insert_object
returns-in_err-insert_object g c =
    let first = update_part c.args.kind
    c.args.key.now c.args.bytes.now g.S.Store c.in_ok-updated.ensures (search rules) in
    record {
      part = refused
          (then_part {Both = λ _ _. Unit {0}} first c.in_err-insert_object.ensures.part (λ p q r u v. tt))
          c.from_residual-in_err-insert_object.ensures.0;
    }

pub returns-in_ok-insert_object : goal.returns-in_ok-insert_object
returns-in_ok-insert_object g c = record {
  part = parts (update_part _ _ _ g.S.Store c.in_ok-updated.ensures (search rules)) c.in_ok-insert_object.ensures.part
      (λ p q r u v. puts_new c.args.kind c.args.key.now c.args.bytes.now c.in_ok-updated.updated p q r u.0 u.1
      (omega (arith, c.if-updated-eq0.true)) v);
}

pub returns-else-updated-eq0 : goal.returns-else-updated-eq0
returns-else-updated-eq0 g c = record {
  part = part_as (update_part _ _ _ g.S.Store c.in_ok-updated.ensures (search rules))
      (λ p q u. puts_set c.args.kind c.args.key.now c.args.bytes.now c.in_ok-updated.updated p q u.0 u.1
      (λ zero. absurd (omega (arith, c.if-updated-eq0.false, zero))));
}
