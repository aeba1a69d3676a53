-- Laws of results.
use Rattle.std.specs.Prelude.{Result, Ok, Err, IfOk, OnErr}

-- what follows of a result's value. The library's `IfOk-weaker` takes the step before the fact, and
-- then the type of the step's argument is not known yet.
pub if_goes : {X E : Type 0} (r : Result X E) (P Q : X → Type 0) → IfOk r P
    → ((x : X) → P x → Q x) → IfOk r Q
if_goes (Ok x) P Q h f = f x h
if_goes (Err e) P Q h f = tt

-- what holds anyway holds of a fault
pub each_err : {X E : Type 0} (r : Result X E) (P : Type 0) → P → OnErr r P
each_err (Ok x) P h = tt
each_err (Err e) P h = h
