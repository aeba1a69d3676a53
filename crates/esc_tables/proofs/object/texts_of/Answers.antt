use Rattle.std.proofs.Common.{◌∙◌, List, ℕ, Bor, ap, map}
use Rattle.std.proofs.lemmas.List.{take_all}
use Rattle.esc_tables.proofs.object.texts_of.Goals as goal

pub returns : goal.returns
returns c = c.loop-text.invariant
    ∙ ap (λ (cells : List (Bor (List ℕ) × Bor (List ℕ))). map (λ c. c.1.now) cells)
    (take_all c.loop-text.text-index c.args.cells.now c.loop-text-test.false)
