-- Laws of steps: what each step gave, if all of them gave a value.
use Rattle.std.proofs.Common.{◌≡◌, ◌⊎◌, inl, inr, Bool, true, false, Result, Ok, Err, refl, ap}
use Rattle.std.specs.Result.{is_ok}
use Rattle.std.proofs.lemmas.Bool.{false≢true}
use Rattle.esc_bundle.specs.declared.refusal.Refusal.{Refusal}
use Rattle.esc_bundle.specs.declared.refusal.Refusal.TheVariants.{BrokenFrame}
use Rattle.esc_bundle.specs.Tests.{◌>>=◌, check}

-- the refusal of a result, or any one
abbrev fault_or_any : {A : Type 0} → Result A Refusal → Refusal
fault_or_any (Ok x) = BrokenFrame
fault_or_any (Err why) = why

-- where two steps give a value, the first gave one, and the next gave its value from that
pub bind_done : {A B : Type 0} (r : Result A Refusal) (next : A → Result B Refusal) (y : B)
    → (r >>= next) ≡ Ok y → (x : A) × (r ≡ Ok x) × (next x ≡ Ok y)
bind_done (Ok x) next y h = (x, refl, h)
bind_done (Err why) next y h = absurd (false≢true (ap is_ok h))

-- where two steps have a fault, it is that of the first, or that of the next one
pub bind_fault : {A B : Type 0} (r : Result A Refusal) (next : A → Result B Refusal) (why : Refusal)
    → (r >>= next) ≡ Err why → (r ≡ Err why) ⊎ ((x : A) × (r ≡ Ok x) × (next x ≡ Err why))
bind_fault (Ok x) next why h = inr (x, refl, h)
bind_fault (Err m) next why h = inl (ap (λ (k : Refusal). Err k) (ap fault_or_any h))

-- where `check` gives a value, the test passed
pub check_passed : (b : Bool) (why : Refusal) (y : Unit {0}) → check b why ≡ Ok y → b ≡ true
check_passed true why y h = refl
check_passed false why y h = absurd (false≢true (ap is_ok h))
