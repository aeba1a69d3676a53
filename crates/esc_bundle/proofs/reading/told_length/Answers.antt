use Rattle.std.proofs.Common.{◌∙◌, sym, subst}
use Rattle.std.proofs.lemmas.Result.{err_from_is_err_and}
use Rattle.esc_bundle.specs.declared.fault.Fault.{Fault}
use Rattle.esc_bundle.specs.Bundle.{views}
use Rattle.esc_bundle.specs.Tests.{Refuses}
use Rattle.esc_bundle.specs.Reading.{length_at}
use Rattle.esc_bundle.proofs.Standing.{Capped, length_told, length_refused}
use Rattle.esc_bundle.proofs.reading.told_length.Goals as goal

pub returns-in_err-check_stand : goal.returns-in_err-check_stand
returns-in_err-check_stand c =
    let value = c.value_of-value.ensures in
    let cap : Capped c.args.size.now c.value_of-value.result = record {
      form = sym c.is_length.ensures
          ∙ c.if-not-is_length.false;
      exact = value.exact;
      over = value.over;
    } in
    let p = err_from_is_err_and c.from_residual.result c.from_residual.ensures.1 in
    let refused = length_refused (views c.args.before.now) c.args.name.now c.args.size.now
    c.value_of-value.result c.in_err-check_stand.field-0.0 cap c.in_err-check_stand.ensures in
    rw p.1 (subst (λ (e : Fault). Refuses
    e (length_at (views c.args.before.now) c.args.name.now c.args.size.now)) (sym p.2) refused)

pub returns : goal.returns
returns c =
    let value = c.value_of-value.ensures in
    let cap : Capped c.args.size.now c.value_of-value.result = record {
      form = sym c.is_length.ensures
          ∙ c.if-not-is_length.false;
      exact = value.exact;
      over = value.over;
    } in
    length_told (views c.args.before.now)
    c.args.name.now c.args.size.now c.value_of-value.result _ cap c.in_ok-check_stand.ensures
