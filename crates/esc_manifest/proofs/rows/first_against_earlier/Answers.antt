use Rattle.std.proofs.Common.{take, length, sym, ap, ◌∙◌, arith}
use Rattle.std.proofs.lemmas.List.{get_or_read}
use Rattle.esc_manifest.specs.Extension.{is_blamed}
use Rattle.esc_manifest.specs.ManifestRows.{no_row, row_at}
use Rattle.esc_manifest.proofs.Least.{least_some, least_none}
use Rattle.esc_manifest.proofs.rows.first_against_earlier.Goals as goal

pub returns-then-is_blamed-clause-first : goal.returns-then-is_blamed-clause-first
returns-then-is_blamed-clause-first c =
    let m = c.args.rows.now in
    let i = c.loop-i.i in
    let here = ap (is_blamed c.args.refusal (take i m))
    (sym (get_or_read m i c.index-rows-i.result c.loop-i-test.true c.index-rows-i.is no_row))
    ∙ sym c.if-is_blamed.ensures in
    sym (least_some (λ r. is_blamed c.args.refusal (take r m) (row_at m r))
    i (length m) c.loop-i-test.true c.loop-i.invariant here)

pub returns-clause-first : goal.returns-clause-first
returns-clause-first c =
    let m = c.args.rows.now in
    sym (least_none (λ r. is_blamed c.args.refusal (take r m) (row_at m r))
    (length m) (λ k lt. c.loop-i.invariant k (omega arith)))
