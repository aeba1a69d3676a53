-- Whether a body that no row lists is to be parked.
use Rattle.std.specs.Prelude.{◌≡◌, ℕ, List, Option, None, IsSome}
use Rattle.esc_store.specs.StoreState.{IsFull}
use Rattle.esc_events.specs.declared.parking.Parking.{Parking}
use Rattle.esc_events.specs.declared.parking.Parking.TheVariants.{Needless, Free, Crowded}

-- a body with this digest is parked already (`Needless`); or it isn't, and there is room for it
-- (`Free`) or none (`Crowded`)
abbrev pub IsParking : (List ℕ → Option (List ℕ)) → List ℕ → Parking → Type 0
IsParking parked digest Needless = IsSome (parked digest)
IsParking parked digest Free = (parked digest ≡ None) × (IsFull parked → ⊥)
IsParking parked digest Crowded = (parked digest ≡ None) × IsFull parked
