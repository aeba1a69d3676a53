-- What each proof of the crate may use: what survives one call and then another.
use Rattle.sqlite.proofs.StateLemmas.{survives_weaker, survives_then}

pub ruleset survivals = (survives_weaker, survives_then)
