use Rattle.std.proofs.Common.{arith}
use Rattle.esc_record.proofs.Objects.{found_is, none_is}
use Rattle.esc_record.proofs.reading.read_record.Goals as goal

pub returns-clause-found : goal.returns-clause-found
returns-clause-found c = found_is
    c.object_of.result c.args.bytes.now (λ i. omega (arith, c.type_inv.bytes i)) c.object_of.ensures

pub returns-clause-none : goal.returns-clause-none
returns-clause-none c = none_is c.object_of.result c.args.bytes.now c.object_of.ensures
