-- Parked bodies with their lengths.
use Rattle.std.specs.Prelude.{◌≡◌, ℕ, List, length, map, All, Option, Some}
use Rattle.esc_store.specs.StoreState.{AreParked}
use Rattle.esc_store.specs.declared.parked.ParkedBody.{ParkedBody}

-- a body is parked under this digest, and has this number of bytes
abbrev pub IsParkedBody : (List ℕ → Option (List ℕ)) → ParkedBody → Type 0
IsParkedBody parked p = (body : List ℕ) × (parked p.digest ≡ Some body) × (p.bytes ≡ length body)

-- these are the bodies that are parked, in the order of their digests
pub record AreParkedBodies (parked : List ℕ → Option (List ℕ))
    (bodies : List ParkedBody) : Type 0 where
  pub digests : AreParked parked (map (λ (p : ParkedBody). p.digest) bodies)
  pub each : All (IsParkedBody parked) bodies
