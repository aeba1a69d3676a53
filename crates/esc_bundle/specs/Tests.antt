-- Tests in a row: the first that fails gives its refusal.
use Rattle.std.specs.Prelude.{◌≡◌, Bool, if◌then◌else◌, Option, Some, None, Result, Ok, Err}
use Rattle.esc_bundle.specs.declared.refusal.Refusal.{Refusal}
use Rattle.esc_bundle.specs.declared.fault.Fault.{Fault}
use Rattle.esc_bundle.specs.declared.fault.Fault.TheVariants.{Refused, NoMemory}

infixl 10 ◌>>=◌
-- the next step, applied to the value of the one before it, or the refusal of that one
abbrev pub ◌>>=◌ : {A B : Type 0} → Result A Refusal → (A → Result B Refusal) → Result B Refusal
(Ok x) >>= next = next x
(Err why) >>= next = Err why

-- the refusal, unless the test passes
abbrev pub check : Bool → Refusal → Result (Unit {0}) Refusal
check b why = if b then Ok tt else Err why

-- the value, or the refusal
abbrev pub or_fault : {A : Type 0} → Refusal → Option A → Result A Refusal
or_fault why None = Err why
or_fault why (Some x) = Ok x

-- a function's fault is the refusal that the definition gives, and never `NoMemory`
abbrev pub Refuses : {A : Type 0} → Fault → Result A Refusal → Type 0
Refuses (Refused why) told = told ≡ Err why
Refuses NoMemory told = ⊥

-- a function that doesn't allocate gives what the definition gives, where `view` is the value that
-- contracts see
abbrev pub Gives : {X Y : Type 0} → (X → Y) → Result X Fault → Result Y Refusal → Type 0
Gives view (Ok x) told = told ≡ Ok (view x)
Gives view (Err e) told = Refuses e told

-- a function that allocates gives what the definition gives, where `view` is the value that
-- contracts see, or `NoMemory`
abbrev pub GivesOrNoMemory : {X Y : Type 0} → (X → Y) → Result X Fault → Result Y Refusal → Type 0
GivesOrNoMemory view (Ok x) told = told ≡ Ok (view x)
GivesOrNoMemory view (Err e) told = (why : Refusal) → e ≡ Refused why → told ≡ Err why
