-- Laws of the first item of a list that passes a test.
use Rattle.std.proofs.Common.{◌≡◌, ℕ, ◌<◌, ◌≤◌, Bool, false, cond, List, length, get_or, Some, None}
use Rattle.std.proofs.Common.{sym, ap, subst, le_refl, lt_irrefl}
use Rattle.std.specs.Prelude.{position}
use Rattle.std.specs.List.{position_or_len}
use Rattle.std.proofs.lemmas.Bool.{le-ltb}
use Rattle.std.proofs.lemmas.List.Sums.{position_or_len_is}

-- where each item fails a test, none is the first to pass it
pub no_first : {X : Type 0} (test : X → Bool) (xs : List X) (d : X)
    → ((k : ℕ) → k < length xs → test (get_or xs k d) ≡ false) → position test xs ≡ None
no_first test xs d fails =
    ap (λ b. cond b (Some (position_or_len test xs)) None)
    (le-ltb (position_or_len test xs) (length xs) past)
  where
    end : position_or_len test xs ≡ length xs
    end =
        position_or_len_is test xs (length xs) d (le_refl (length xs)) fails
        (λ lt. absurd (lt_irrefl (length xs) lt))

    past : length xs ≤ position_or_len test xs
    past = subst (λ (n : ℕ). length xs ≤ n) (sym end) (le_refl (length xs))
