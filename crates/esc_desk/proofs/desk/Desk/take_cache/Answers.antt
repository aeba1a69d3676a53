use Rattle.std.proofs.Common.{Option, IfSome, sym, subst}
use Rattle.esc_events.specs.declared.cache.Cache.{Cache}
use Rattle.esc_events.specs.Cache.{IsCacheOf}
use Rattle.esc_desk.proofs.desk.Desk.take_cache.Goals as goal

pub returns-clause-cache : goal.returns-clause-cache
returns-clause-cache g c = λ clean e k stood stands cache. c.cache_or.ensures.cache clean e k stood
    stands (subst (λ (o : Option Cache). IfSome o (IsCacheOf k)) (sym c.take-cache.ensures.value) cache)
