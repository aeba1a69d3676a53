use Rattle.std.proofs.Common.{rules}
use Rattle.esc_cli.proofs.Lines.{shown_line}
use Rattle.esc_cli.proofs.why.line_of.Goals as goal

pub returns : goal.returns
returns g c = shown_line c.as_bytes.result.now c.push_shown.new.line.items _ (search rules) (search rules)
