use Rattle.std.proofs.Common.{◌≡◌, arith, FitsSigned, w64}
use Rattle.std.specs.Int.{w128}
use Rattle.std.proofs.lemmas.Int.{to_z-of_z}
use Rattle.jiff.specs.Words.{civil_nanos}
use Rattle.jiff_core.proofs.SignedLemmas.{signed_arith}
use Rattle.esc_envelope.proofs.Years.{civil_in_years}
use Rattle.esc_envelope.proofs.moment.nanoseconds_at.Goals as goal

pub overflow_cast-result : goal.overflow_cast-result
overflow_cast-result c =
    let range = civil_in_years c.args.civil c.requires in
    let same : c.as_nanosecond.result ≡ civil_nanos c.args.civil =
    omega (arith, signed_arith, c.as_nanosecond.ensures, c.in-Ok.ensures.value) in
    let wide : FitsSigned w128 c.as_nanosecond.result = omega (arith, signed_arith, range, same) in
    rw to_z-of_z (omega (arith, signed_arith, range, same))

pub unreachable-requires : goal.unreachable-requires
unreachable-requires c =
    let range = civil_in_years c.args.civil c.requires in
    let refused = c.in-Err.ensures.succeeds.1
    (omega (arith, signed_arith, range), omega (arith, signed_arith, range)) in
    cc

pub returns-clause-value : goal.returns-clause-value
returns-clause-value c =
    let range = civil_in_years c.args.civil c.requires in
    let same : c.as_nanosecond.result ≡ civil_nanos c.args.civil =
    omega (arith, signed_arith, c.as_nanosecond.ensures, c.in-Ok.ensures.value) in
    let wide : FitsSigned w128 c.as_nanosecond.result = omega (arith, signed_arith, range, same) in
    let narrow : FitsSigned w64 c.as_nanosecond.result = omega (arith, signed_arith, range, same) in
    simp to_z-of_z same

pub returns-clause-range : goal.returns-clause-range
returns-clause-range c =
    let range = civil_in_years c.args.civil c.requires in
    let same : c.as_nanosecond.result ≡ civil_nanos c.args.civil =
    omega (arith, signed_arith, c.as_nanosecond.ensures, c.in-Ok.ensures.value) in
    let wide : FitsSigned w128 c.as_nanosecond.result = omega (arith, signed_arith, range, same) in
    let narrow : FitsSigned w64 c.as_nanosecond.result = omega (arith, signed_arith, range, same) in
    simp to_z-of_z (omega (arith, signed_arith, range, same), omega (arith, signed_arith, range, same))
