use Rattle.std.proofs.Common.{◌+◌, sym}
use Rattle.std.proofs.lemmas.List.{take_rest}
use Rattle.esc_bundle.proofs.Words.{parted-found, parted-not_found}
use Rattle.esc_bundle.proofs.reading.split_at_byte.Goals as goal

pub returns-in-Some : goal.returns-in-Some
returns-in-Some c = rw (take_rest c.args.bytes.now (c.in-Some.at + 1))
    (sym (parted-found c.args.separator c.args.bytes.now c.in-Some.at c.in-Some.ensures))

pub returns-in-None : goal.returns-in-None
returns-in-None c = sym (parted-not_found c.args.separator c.args.bytes.now c.in-None.ensures)
