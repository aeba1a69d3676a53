use Rattle.std.proofs.Common.{codes}
use Rattle.std.proofs.lemmas.Result.{on_ok_weaker}
use Rattle.esc_cli.proofs.Lines.{unsaid_line}
use Rattle.esc_cli.proofs.why.print_why.Goals as goal

pub returns-in-Err-clause-line : goal.returns-in-Err-clause-line
returns-in-Err-clause-line g c is_asked = on_ok_weaker c.write_all-in-Err.result
    (λ told. (codes "why: memory was refused\n", unsaid_line, told)) c.write_all-in-Err.ensures.bytes
