-- What a registry contains, and what its calls do to that.
use Rattle.std.specs.Prelude.{◌≡◌, ℕ, ◌-◌, ◌^◌, ◌<◌, min, ◌==◌, if◌then◌else◌, List}
use Rattle.std.specs.Prelude.{length, Option}
use Rattle.std.specs.Prelude.{Some, None}
use Rattle.std.proofs.Common.{arith}
use Rattle.std.specs.List.{IsDistinct}
use Rattle.std.specs.Map.{lookup, keys_of}
use Rattle.std.specs.Option.{unwrap_or}
use Rattle.esc_tables.specs.KeyName.{KeyName, key_eq}
use Rattle.esc_tables.specs.ObjectValue.{ObjectValue}
use Rattle.esc_tables.specs.DepositValue.{DepositValue}
use Rattle.esc_apply.specs.Tables.{mentions, says}

-- for each key its object, or none
abbrev pub ObjectsByKey : Type 0
ObjectsByKey = KeyName → Option ObjectValue

-- for each key what was there before a step, if that was noted
abbrev pub Befores : Type 0
Befores = KeyName → Option (Option ObjectValue)

-- the objects, and for each step what was before it at the keys that it changed
pub record State : Type 0 where
  pub content : ObjectsByKey
  pub undo : ℕ → Befores

-- nothing was noted
abbrev pub nothing : Befores
nothing q = None

-- a registry without objects and notes
abbrev pub empty : State
empty = record { content = λ q. None; undo = λ j q. None }

-- a function with another value at one key
abbrev pub with_key : {X : Type 0} → (KeyName → X) → KeyName → X → KeyName → X
with_key f k w q = if key_eq k q then w else f q

-- notes with other ones for one step
abbrev pub with_step : (ℕ → Befores) → ℕ → Befores → ℕ → KeyName → Option (Option ObjectValue)
with_step f j g i q = if j == i then g q else f i q

-- the state with an object, or none, written at a key
abbrev pub written : State → KeyName → Option ObjectValue → State
written s k w = record { content = with_key s.content k w; undo = s.undo }

-- the state with this noted as what was at a key before step j
abbrev pub noted : State → ℕ → KeyName → Option ObjectValue → State
noted s j k w = record {
  content = s.content;
  undo = with_step s.undo j (with_key (s.undo j) k (Some w));
}

-- the state without what was noted for step j
abbrev pub taken : State → ℕ → State
taken s j = record { content = s.content; undo = with_step s.undo j nothing }

-- the state in which what a key has is noted for step j, and is then replaced
abbrev pub changed : State → ℕ → KeyName → Option ObjectValue → State
changed s j k w = written (noted s j k (s.content k)) k w

-- the state once each key that a deposit mentions has what the deposit says of it, and what was
-- there before is noted for step j
abbrev pub stepped : State → ℕ → DepositValue → State
stepped s j d = record {
  content = λ q. if mentions q d then says q d else s.content q;
  undo = with_step s.undo j (λ q. if mentions q d then Some (s.content q) else None);
}

-- the state once each key has again what was noted of it for step j, and nothing is noted for the
-- step
abbrev pub restored : State → ℕ → State
restored s j = record {
  content = λ q. unwrap_or (s.undo j q) (s.content q);
  undo = with_step s.undo j nothing;
}

-- the entries are those of a function of keys: each key once, and for each key what the function
-- has there, if it has anything
pub record IsEntriesOf {X : Type 0} (f : KeyName → Option X)
    (es : List (KeyName × X)) : Type 0 where
  pub once : IsDistinct key_eq (keys_of es)
  pub each : (q : KeyName) → lookup (key_eq q) es ≡ f q

-- a function of keys has something at exactly n keys
abbrev pub HasSize : {X : Type 0} → (KeyName → Option X) → ℕ → Type 0
HasSize {X} f n = (es : List (KeyName × X)) × IsEntriesOf f es × (length es ≡ n)

-- a count of 64 bits, which stays at 2^64 - 1 once there
abbrev pub saturated : ℕ → ℕ
saturated n = min n (2 ^ 64 - 1)

-- such a count fits 64 bits
pub saturated_fits : (n : ℕ) → saturated n < 2 ^ 64
saturated_fits n = omega arith
