use Rattle.esc_deposit.proofs.SeriesOfRuns.{is_series, one_run}
use Rattle.esc_deposit.proofs.laws.series_has_its_objects.Goals as goal

pub returns-clause-series : goal.returns-clause-series
returns-clause-series c = is_series

pub returns-clause-objects : goal.returns-clause-objects
returns-clause-objects c = λ id w runs some order q.
    c.series_applies_as_its_deposit.ensures.alone _ _ (is_series id w runs some order) q

pub returns-clause-one : goal.returns-clause-one
returns-clause-one c = one_run
