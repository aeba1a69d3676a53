-- Laws of what is written piece by piece.
use Rattle.std.proofs.Common.{◌≡◌, List, ◌++◌, sym, ap, ◌∙◌, append_assoc}

-- the first piece of what is left is written: with what is then left it is the whole
pub front_added : {A : Type 0} (old new whole left piece rest : List A) → left ≡ piece ++ rest
    → old ++ left ≡ whole → new ≡ old ++ piece → new ++ rest ≡ whole
front_added {A} old new whole left piece rest parts known wrote =
    ap (λ (l : List A). l ++ rest) wrote ∙ append_assoc old piece rest
    ∙ ap (λ (l : List A). old ++ l) (sym parts) ∙ known
