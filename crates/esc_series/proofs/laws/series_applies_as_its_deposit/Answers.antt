use Rattle.esc_series.proofs.Parts.{series_applied, series_chained, series_mentioned, series_alone}
use Rattle.esc_series.proofs.laws.series_applies_as_its_deposit.Goals as goal

pub returns-clause-applied : goal.returns-clause-applied
returns-clause-applied c = series_applied

pub returns-clause-chained : goal.returns-clause-chained
returns-clause-chained c = series_chained

pub returns-clause-mentioned : goal.returns-clause-mentioned
returns-clause-mentioned c = series_mentioned

pub returns-clause-alone : goal.returns-clause-alone
returns-clause-alone c = series_alone
