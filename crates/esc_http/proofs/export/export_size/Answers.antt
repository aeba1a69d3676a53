use Rattle.esc_http.proofs.CutLemmas.{counted, exported}
use Rattle.esc_http.proofs.export.export_size.Goals as goal

pub returns-in-Ok-clause-size : goal.returns-in-Ok-clause-size
returns-in-Ok-clause-size g c =
    let (text, hands, says) = c.in-Ok.ensures.ok in (
      text,
      counted _ _ _ hands.left,
      λ honest e reflects.
          exported c.args.kind text e reflects.kept c.tables_are_listed.ensures c.tables_are_of_events.ensures
          reflects.stands_for (says honest e reflects),
    )
