-- Laws of results.
use Rattle.std.specs.Prelude.{◌≡◌, Result, Ok, Err, IfOk, OnOk}
use Rattle.std.proofs.Common.{refl}
pub use Rattle.esc_sql.specs.ResultLaws.{each_err, if_goes}

-- what follows from a result, of its value
pub if_ok : {X E : Type 0} (r : Result X E) (P : X → Type 0) → ((x : X) → r ≡ Ok x → P x)
    → IfOk r P
if_ok (Ok x) P h = h x refl
if_ok (Err e) P h = tt

-- what holds in any case holds where there is a value
pub on_any : {X E P : Type 0} (r : Result X E) → P → OnOk r P
on_any (Ok x) p = p
on_any (Err e) p = tt

-- what follows of a result's value for two reasons
pub if_both : {X E : Type 0} (r : Result X E) (P Q R : X → Type 0) → IfOk r P → IfOk r Q
    → ((x : X) → P x → Q x → R x) → IfOk r R
if_both (Ok x) P Q R p q f = f x p q
if_both (Err e) P Q R p q f = tt
