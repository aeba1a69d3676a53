-- What a row of tests came to.
use Rattle.std.proofs.Common.{◌≡◌, ℕ, Bool, true, false, Option, Some, None, Result, Ok, Err, refl, ap}
use Rattle.esc_bundle.specs.declared.refusal.Refusal.{Refusal}
use Rattle.esc_bundle.specs.declared.fault.Fault.{Fault}
use Rattle.esc_bundle.specs.declared.fault.Fault.TheVariants.{Refused, NoMemory}
use Rattle.esc_bundle.specs.Tests.{◌>>=◌, check, or_fault, Refuses}

-- a result without a fault
abbrev pub done : {A : Type 0} → A → Result A Refusal
done x = Ok x

-- two tests that came to the same value
pub done_is : {A : Type 0} (x y : A) → done x ≡ done y → x ≡ y
done_is x y e = cc

-- a test that came to a value came to no fault
pub done_or_fault : {A : Type 0} (x : A) (n : Refusal) → done x ≡ Err n → ⊥
done_or_fault x n e = cc

-- the test passed, and the next step was done
pub check_done : {B : Type 0} (b : Bool) (n : Refusal) (next : Unit {0} → Result B Refusal) (y : B)
    → (check b n >>= next) ≡ Ok y → (b ≡ true) × (next tt ≡ Ok y)
check_done true n next y e = (refl, e)
check_done false n next y e = absurd cc

-- the value was there
pub value_there : {A : Type 0} (n : Refusal) (o : Option A) (x : A) → or_fault n o ≡ Ok x → o ≡ Some x
value_there n None x e = absurd cc
value_there n (Some y) x e = cc

-- a refusal of the first step is one of both
pub refused_first : {A B : Type 0} (e : Fault) (r : Result A Refusal) (next : A → Result B Refusal)
    → Refuses e r → Refuses e (r >>= next)
refused_first {A} (Refused n) r next same = ap (λ (t : Result A Refusal). t >>= next) same
refused_first NoMemory r next none = none
