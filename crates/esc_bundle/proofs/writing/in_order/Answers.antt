use Rattle.std.proofs.Common.{◌≡◌, ◌∙◌, ◌++◌, ◌∷◌, [], sym, ap, subst, map, drop, length}
use Rattle.std.proofs.Common.{◌+◌, List, Err}
use Rattle.std.proofs.lemmas.Result.{err_from_is_err_and}
use Rattle.std.proofs.lemmas.List.{map_push}
use Rattle.esc_bundle.specs.declared.fault.Fault.{Fault}
use Rattle.esc_bundle.specs.Bundle.{Named, view, views}
use Rattle.esc_bundle.specs.Tests.{Refuses}
use Rattle.esc_bundle.specs.Reading.{stands_at}
use Rattle.esc_bundle.specs.Writing.{named, in_order}
use Rattle.esc_bundle.proofs.Written.{in_order_more, in_order_stops, in_order_ends}
use Rattle.esc_bundle.proofs.writing.in_order.Goals as goal

pub returns-in_err-check_stand : goal.returns-in_err-check_stand
returns-in_err-check_stand c =
    let p = err_from_is_err_and c.from_residual.result c.from_residual.ensures.1 in
    let before = views c.loop-part.before.items in
    let s = named c.part-item.result in
    let refused : Refuses c.in_err-check_stand.field-0.0 (stands_at before s.name (length s.bytes)) =
    rw (
      c.as_slice-in-loop-part.ensures.value,
      c.as_bytes.ensures.value,
      c.as_str.ensures.value,
      c.as_slice.ensures.value,
    ) at c.in_err-check_stand.ensures in
    rw p.1 (λ n same.
    let fault : stands_at before s.name (length s.bytes) ≡ Err n = subst (λ (e : Fault). Refuses
    e (stands_at before s.name (length s.bytes))) (sym p.2 ∙ same) refused in
    sym c.loop-part.invariant ∙ in_order_stops c.args.list.now
    c.loop-part.part-index c.part-item.result before n c.loop-part-test.true c.part-item.is fault)

pub loop-part-preserved : goal.loop-part-preserved
loop-part-preserved c =
    let before = views c.loop-part.before.items in
    let s = named c.part-item.result in
    let stands = rw (
      c.as_slice-in-loop-part.ensures.value,
      c.as_bytes.ensures.value,
      c.as_str.ensures.value,
      c.as_slice.ensures.value,
    ) at c.in_ok-check_stand.ensures in
    let more = in_order_more c.args.list.now c.loop-part.part-index
    c.part-item.result before _ c.loop-part-test.true c.part-item.is stands in
    let pushed : views c.push.new.self.items ≡ before ++ (s ∷ []) =
    rw (c.as_str.ensures.value, c.as_slice.ensures.value)
    at (ap views c.in_ok-push.ensures.items ∙ map_push view c.loop-part.before.items _) in
    ap (λ (ss : List Named). in_order ss (map named
    (drop (c.loop-part.part-index + 1) c.args.list.now))) pushed ∙ sym more ∙ c.loop-part.invariant

pub returns : goal.returns
returns c = sym c.loop-part.invariant ∙ in_order_ends
    c.args.list.now c.loop-part.part-index (views c.loop-part.before.items) c.loop-part-test.false
