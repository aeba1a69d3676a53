-- Rows and steps of a plan.
use Rattle.std.proofs.Common.{◌≡◌, ℕ, ◌+◌, ◌<◌, ◌≤◌, List, [], ◌∷◌, ◌++◌, length, map}
use Rattle.std.proofs.Common.{take, drop, get_or, sym, ap, ap₂, ◌∙◌, arith}
use Rattle.std.specs.List.{drop-map}
use Rattle.std.proofs.lemmas.List.{take_more, take_more_same, take-append-drop, length-map}
use Rattle.std.proofs.lemmas.List.{length-take-le, map-append, get_or-map}
use Rattle.esc_apply.specs.declared.front.Step.{Step}
use Rattle.esc_tables.specs.DepositValue.{DepositValue}
use Rattle.esc_events.specs.Plans.{rows_in_steps}

-- the deposits of one step more
pub deposits_more : (f : ℕ → DepositValue) (steps : List Step) (i : ℕ) (x : Step) → i < length steps
    → map f (rows_in_steps (take (i + 1) steps))
    ≡ map f (rows_in_steps (take i steps)) ++ f (get_or steps i x).row ∷ []
deposits_more f steps i x within =
    let row_of : Step → ℕ = λ (s : Step). s.row in
    ap (λ (l : List Step). map f (rows_in_steps l)) (take_more steps i x within)
    ∙ ap (map f) (map-append row_of (take i steps) (get_or steps i x ∷ []))
    ∙ map-append f (rows_in_steps (take i steps)) ((get_or steps i x).row ∷ [])

-- as many deposits as steps
pub deposits_count : (f : ℕ → DepositValue) (steps : List Step) (i : ℕ)
    → i ≤ length steps → length (map f (rows_in_steps (take i steps))) ≡ i
deposits_count f steps i within = length-map (rows_in_steps (take i steps)) f
    ∙ length-map (take i steps) (λ (s : Step). s.row) ∙ length-take-le i steps within

-- one more step of the same row
pub one_more_same_row : (old new : List Step) (i : ℕ) (x y : Step)
    → i < length old → i < length new → (get_or old i x).row ≡ (get_or new i y).row
    → take i (rows_in_steps old) ≡ take i (rows_in_steps new)
    → take (i + 1) (rows_in_steps old) ≡ take (i + 1) (rows_in_steps new)
one_more_same_row old new i x y in_old in_new row same =
    let row_of : Step → ℕ = λ (s : Step). s.row in
    let olds = length-map old row_of in
    let news = length-map new row_of in
    let here = get_or-map row_of old i x 0 in_old ∙ row ∙ sym (get_or-map row_of new i y 0 in_new) in
    take_more_same (rows_in_steps old) (rows_in_steps new) i 0 (omega (arith, olds)) (omega (arith, news)) same here

-- the rows of a chain that goes on past the steps that stay
pub rows_continued : (old new : List Step) (front : ℕ)
    → take front (rows_in_steps old) ≡ take front (rows_in_steps new)
    → take front (rows_in_steps old) ++ rows_in_steps (drop front new) ≡ rows_in_steps new
rows_continued old new front same =
    ap₂ (λ (xs ys : List ℕ). xs ++ ys) same (sym (drop-map (λ (s : Step). s.row) front new))
    ∙ take-append-drop front (rows_in_steps new)
