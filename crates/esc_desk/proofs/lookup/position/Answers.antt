use Rattle.std.proofs.Common.{rules}
use Rattle.std.proofs.lemmas.Fn.{always_returns_same}
use Rattle.esc_desk.proofs.LookupLemmas.{compared, found_in, absent_from}
use Rattle.esc_desk.proofs.lookup.position.Goals as goal

pub returns-clause-found : goal.returns-clause-found
returns-clause-found c =
    let facts = c.binary_search_by.ensures in
    let by_key = facts.position (compared c.args.key.now)
    (always_returns_same _ _ _ (λ a r f called. (search rules, search rules))) in
    found_in c.args.key.now c.args.keys.now _ _ c.ok.ensures.value facts.bound by_key

pub returns-clause-absent : goal.returns-clause-absent
returns-clause-absent c =
    let by_key = c.binary_search_by.ensures.position (compared c.args.key.now)
    (always_returns_same _ _ _ (λ a r f called. (search rules, search rules))) in
    absent_from c.args.key.now c.args.keys.now _ _ c.ok.ensures.value by_key
