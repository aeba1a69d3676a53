use Rattle.esc_http.proofs.RouteLemmas.{strip_is}
use Rattle.esc_http.proofs.route.strip.Goals as goal

pub returns : goal.returns
returns c = strip_is c.args.front.now c.args.path.now c.strip_prefix.result c.strip_prefix.ensures.cases
