-- The rows of the steps of a chain.
use Rattle.std.proofs.Common.{◌≡◌, ℕ, List, map, subst, sym, ap, ◌∙◌}
use Rattle.std.proofs.lemmas.Simd.{map-map}
use Rattle.std.proofs.lemmas.List.{map-id}
use Rattle.esc_apply.specs.declared.front.Step.{Step}
use Rattle.esc_store.specs.StoreState.{step_at}
use Rattle.esc_events.specs.Events.{EventValue, union}
use Rattle.esc_events.specs.LatestTables.{IsChainOf}
use Rattle.esc_desk.specs.Reads.{AreStepsOfChain}

-- those of the latest chain's steps are its rows
pub chain_rows : (e : List EventValue) (steps read : List Step) (rows : List ℕ) → read ≡ steps
    → rows ≡ map (λ (s : Step). s.row) read → AreStepsOfChain e steps → IsChainOf e rows
chain_rows e steps read rows is are had =
    let row : Step → ℕ = λ s. s.row in
    let same : rows ≡ had.chain =
    are ∙ ap (map row) (is ∙ had.are) ∙ map-map row (step_at (union e)) had.chain ∙ map-id had.chain in
    subst (λ (l : List ℕ). IsChainOf e l) (sym same) had.latest
