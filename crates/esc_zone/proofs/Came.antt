-- What a source of objects gave, where its fault was handed on as another.
use Rattle.std.proofs.Common.{◌≡◌, ◌∙◌, sym, subst, Result, Ok, Err, IfOk, MatchResult}
use Rattle.std.specs.Result.{IsErrAnd}

abbrev value_or : {A E : Type 0} → Result A E → A → A
value_or (Ok x) other = x
value_or (Err e) other = other

-- what holds of a result holds of the value that was handed on
pub came : {A E F : Type 0} (P : A → Type 0) (Q : E → F → Type 0) (r : Result A E) (s : Result A F) (x : A)
    → MatchResult r (λ y. s ≡ Ok y) (λ e. IsErrAnd s (Q e)) → s ≡ Ok x → IfOk r P → P x
came P Q (Ok y) s x is at holds = subst P (λ i. value_or ((sym is ∙ at) i) y) holds
came P Q (Err e) s x is at holds = absurd (subst (λ t. IsErrAnd t (Q e)) at is)
