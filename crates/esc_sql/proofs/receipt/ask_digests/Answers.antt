use Rattle.esc_sql.proofs.Calls.{rules, tells, shows_verdict_digests}
use Rattle.esc_sql.proofs.receipt.ask_digests.Goals as goal

pub returns : goal.returns
returns g c = record {
  read = tells (shows_verdict_digests _) c.query_all.ensures (search rules);
}
