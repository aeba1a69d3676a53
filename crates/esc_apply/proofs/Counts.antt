-- Counts that stay at their greatest value.
use Rattle.std.proofs.Common.{◌≡◌, ℕ, ◌+◌, ◌^◌, ◌<◌, arith}
use Rattle.esc_apply.specs.Registry.{saturated}

-- of n writes none is left
pub all_counted : (count all left before : ℕ) → count < 2 ^ 64
    → left ≡ 0 → saturated (count + left) ≡ saturated (before + all) → count ≡ saturated (before + all)
all_counted count all left before bounded none counted = omega (arith, counted)

-- one write more is made
pub one_counted : (was now left rest end : ℕ) → left ≡ rest + 1
    → saturated (was + left) ≡ end → now ≡ saturated (was + 1) → saturated (now + rest) ≡ end
one_counted was now left rest end more counted made = omega (arith, counted)
