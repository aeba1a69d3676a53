-- Two keys are one key, or differ.
use Rattle.std.proofs.Common.{◌≡◌, Bool, true, false, refl, ◌∙◌}
use Rattle.esc_tables.specs.KeyLaws.{keys_alike, one_key}
use Rattle.esc_tables.specs.KeyName.{KeyName, key_eq}

-- two keys are one key, or differ
pub data Keys (a b : KeyName) : Type 0 where
  one : a ≡ b → Keys a b
  two : key_eq a b ≡ false → key_eq b a ≡ false → Keys a b

-- two keys are one, or differ
pub keys : (a b : KeyName) → Keys a b
keys a b = by_test (key_eq a b) refl
  where
    by_test : (t : Bool) → key_eq a b ≡ t → Keys a b
    by_test true e = one (one_key a b e)
    by_test false e = two e (keys_alike.symm b a ∙ e)
