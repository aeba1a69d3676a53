use Rattle.std.proofs.Common.{refl, ◌≡◌, ◌<◌, ◌∙◌, sym, map, length, Err, arith}
use Rattle.std.proofs.lemmas.Grind.{common_steps}
use Rattle.std.proofs.lemmas.Result.{err_from_is_err_and}
use Rattle.esc_bundle.specs.declared.refusal.Refusal.TheVariants.{BrokenFrame}
use Rattle.esc_bundle.specs.declared.fault.Fault.TheVariants.{Refused}
use Rattle.esc_bundle.specs.Bundle.{views}
use Rattle.esc_bundle.specs.Writing.{named}
use Rattle.esc_bundle.proofs.Unwritten.{made_of}
use Rattle.esc_bundle.proofs.Written.{none_made, disorder_made, order_made}
use Rattle.esc_bundle.proofs.writing.write_bundle.Goals as goal

pub returns-then-is_empty : goal.returns-then-is_empty
returns-then-is_empty c =
    let none : length c.args.list.now ≡ 0 = grind (arith, common_steps) in
    let m = made_of (map named c.args.list.now)
    (Err (Refused BrokenFrame)) (λ n same. none_made c.args.list.now n none (cc)) in
    record {
      written = m.written;
      refused = m.refused;
      bundle_written = m.bundle_written;
      fault_told =
          m.fault_told;
      made = m.made;
      unmade = m.unmade;
      unwritten = m.unwritten;
      empty = λ none. refl;
    }

pub returns-in_err-sections : goal.returns-in_err-sections
returns-in_err-sections c =
    let some : 0 < length c.args.list.now = grind (arith, common_steps) in
    let p = err_from_is_err_and c.from_residual.result c.from_residual.ensures.1 in
    let m = made_of (map named c.args.list.now) c.from_residual.result (rw p.1 (λ n same. disorder_made
    c.args.list.now n some (c.in_err-sections.ensures n (sym p.2 ∙ same)))) in
    record {
      written = m.written;
      refused = m.refused;
      bundle_written = m.bundle_written;
      fault_told = m.fault_told;
      made = m.made;
      unmade = m.unmade;
      unwritten = m.unwritten;
      empty = λ none. absurd (omega (arith, none, some));
    }

pub returns : goal.returns
returns c =
    let some : 0 < length c.args.list.now = grind (arith, common_steps) in
    let made = order_made c.args.list.now (views c.in_ok-sections.sections.items) some c.in_ok-sections.ensures in
    let joined = rw c.as_slice.ensures.value at c.join.ensures in
    let m = made_of (map named c.args.list.now) c.join.result (rw made joined) in
    record {
      written = m.written;
      refused = m.refused;
      bundle_written = m.bundle_written;
      fault_told = m.fault_told;
      made = m.made;
      unmade = m.unmade;
      unwritten = m.unwritten;
      empty = λ none. absurd (omega (arith, none, some));
    }
