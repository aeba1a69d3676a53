use Rattle.std.proofs.Common.{◌∙◌}
use Rattle.esc_http.proofs.RouteLemmas.{found_leads, none_leads}
use Rattle.esc_http.proofs.route.route_of.Goals as goal

pub returns-in-Ok : goal.returns-in-Ok
returns-in-Ok c = record { leads = c.way_to.ensures ∙ found_leads _ _ _ c.requires.routes c.in-Ok.ensures.found }

pub returns-in-Err : goal.returns-in-Err
returns-in-Err c = record { leads = none_leads _ _ c.requires.routes c.in-Err.ensures.missing }
