use Rattle.std.proofs.Common.{◌∙◌, List, ℕ, Bor, ap, map}
use Rattle.std.proofs.lemmas.List.{take_all}
use Rattle.esc_tables.proofs.headings.names_of.Goals as goal

pub returns : goal.returns
returns c = c.loop-name.invariant
    ∙ ap (λ (cells : List (Bor (List ℕ) × Bor (List ℕ))). map (λ c. c.0.now) cells)
    (take_all c.loop-name.name-index c.args.cells.now c.loop-name-test.false)
