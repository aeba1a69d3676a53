use Rattle.esc_desk.proofs.caching.cache_or.Goals as goal

pub returns-in-None-clause-cache : goal.returns-in-None-clause-cache
returns-in-None-clause-cache g c = λ clean e k stood stands cache. c.cache_of.ensures.cache clean e k stood stands
