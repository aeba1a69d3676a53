use Rattle.esc_tables.proofs.NameOrder.{by_name_same, by_name_rises}
use Rattle.esc_tables.proofs.laws.tables_are_in_order.Goals as goal

pub returns-clause-same : goal.returns-clause-same
returns-clause-same c = by_name_same

pub returns-clause-rising : goal.returns-clause-rising
returns-clause-rising c = by_name_rises
