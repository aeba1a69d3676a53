use Rattle.esc_zone.specs.Signers.{IsRowKeyDs}
use Rattle.esc_zone.proofs.Faults.{passed_on, without_flags, without_protocol, without_algorithm, without_key}
use Rattle.esc_zone.proofs.signer.ds_of_key_row.Goals as goal

pub returns-in_err-flags : goal.returns-in_err-flags
returns-in_err-flags c =
    let name = c.args.name.now in
    let row = c.args.row.now in
    passed_on (IsRowKeyDs name row) c.in_err-flags.field-0.0 c.from_residual.result c.from_residual.ensures.1
    (λ fresh. without_flags name row c.cell.result.now c.cell.ensures (c.in_err-flags.ensures fresh))

pub returns-in_err-protocol : goal.returns-in_err-protocol
returns-in_err-protocol c =
    let name = c.args.name.now in
    let row = c.args.row.now in
    passed_on (IsRowKeyDs name row) c.in_err-protocol.field-0.0 c.from_residual-in_err-protocol.result
    c.from_residual-in_err-protocol.ensures.1
    (λ fresh. without_protocol name row c.cell-2.result.now c.cell-2.ensures (c.in_err-protocol.ensures fresh))

pub returns-in_err-algorithm : goal.returns-in_err-algorithm
returns-in_err-algorithm c =
    let name = c.args.name.now in
    let row = c.args.row.now in
    passed_on (IsRowKeyDs name row) c.in_err-algorithm.field-0.0 c.from_residual-in_err-algorithm.result
    c.from_residual-in_err-algorithm.ensures.1
    (λ fresh. without_algorithm name row c.cell-3.result.now c.cell-3.ensures (c.in_err-algorithm.ensures fresh))

pub returns-in_err-key : goal.returns-in_err-key
returns-in_err-key c =
    let name = c.args.name.now in
    let row = c.args.row.now in
    passed_on (IsRowKeyDs name row) c.in_err-key.field-0.0 c.from_residual-in_err-key.result
    c.from_residual-in_err-key.ensures.1
    (λ fresh. without_key name row c.cell-4.result.now c.cell-4.ensures (c.in_err-key.ensures fresh))
