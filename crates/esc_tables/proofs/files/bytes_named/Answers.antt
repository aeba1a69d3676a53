use Rattle.std.proofs.Common.{sym}
use Rattle.esc_tables.proofs.SectionFacts.{bytes_found}
use Rattle.esc_tables.proofs.files.bytes_named.Goals as goal

pub returns-in-Some : goal.returns-in-Some
returns-in-Some c = sym (bytes_found c.args.files.now c.args.name.now _ c.in-Some.ensures)

pub returns-in-None : goal.returns-in-None
returns-in-None c = sym (bytes_found c.args.files.now c.args.name.now _ c.in-None.ensures)
