-- Laws of a registry that holds a chain.
use Rattle.std.proofs.Common.{◌≡◌, ℕ, zero, suc, [], None, refl}
use Rattle.esc_tables.specs.KeyName.{KeyName}
use Rattle.esc_apply.specs.Registry.{empty}
use Rattle.esc_apply.specs.Images.{before_images, chain_state}

-- an empty registry is that of the chain without deposits
pub empty-chain : empty ≡ chain_state []
empty-chain = λ i. record { content = λ q. None; undo = λ j q. none j q i }
  where
    none : (j : ℕ) (q : KeyName) → None ≡ before_images [] j q
    none zero q = refl
    none (suc j) q = refl
