use Rattle.std.proofs.Common.{subst, ◌∙◌}
use Rattle.esc_manifest.specs.Accepted.{IsAccepted}
use Rattle.esc_desk.proofs.LookupLemmas.{keys_of_all}
use Rattle.esc_desk.proofs.WalkSteps.{entries_kept}
use Rattle.esc_desk.proofs.lookup.StoreReaderLookup.index.Goals as goal

pub returns-clause-keys : goal.returns-clause-keys
returns-clause-keys g c = λ honest e serves apart es entries order.
    let k = serves.kept in
    let accepted = subst IsAccepted (c.manifest.ensures.kept k serves.stands
    ∙ serves.stands_for.books.listed) c.rows-rows.ensures.accepted in
    keys_of_all k.registry.content _ es (c.in_ok-keys.ensures.keys honest k serves.stands)
    (entries_kept c.latest_chain_at_is_one.ensures accepted apart serves.stands_for entries order)
