use Rattle.esc_apply.proofs.Listings.{tables_listed}
use Rattle.esc_apply.proofs.laws.tables_are_listed.Goals as goal

pub returns : goal.returns
returns c = tables_listed
