use Rattle.std.proofs.Common.{rules}
use Rattle.std.proofs.lemmas.Result.{on_ok_weaker}
use Rattle.esc_cli.proofs.Lines.{grown_twice}
use Rattle.esc_cli.proofs.why.print_refusal.Goals as goal

pub returns-clause-told : goal.returns-clause-told
returns-clause-told g c is_asked = on_ok_weaker c.print_why.result (λ told. (
  told.0,
  told.1,
  grown_twice
      _ _ _ c.args.refusal.now told.0 (search rules) told.2,
)) (c.print_why.ensures.line is_asked)
