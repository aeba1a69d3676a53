-- Places and their order (this project's profile; the types are those of RFC 8909, section 2).
use Rattle.std.specs.Prelude.{◌≡◌, ℕ, ◌<◌, ◌⊎◌, ◌<ℤ◌}
use Rattle.esc_envelope.specs.declared.place.DepositType.{DepositType}
use Rattle.esc_envelope.specs.declared.place.DepositType.TheVariants.{Diff, Incr, Full}
use Rattle.esc_envelope.specs.declared.place.Place.{Place}

-- the types in order: a Differential, an Incremental, a Full
abbrev pub rank : DepositType → ℕ
rank Diff = 0
rank Incr = 1
rank Full = 2

-- the first place is before the second: by watermark, and at equal watermarks by type
abbrev pub IsBefore : Place → Place → Type 0
IsBefore a b = (a.watermark <ℤ b.watermark)
    ⊎ ((a.watermark ≡ b.watermark) × (rank a.kind < rank b.kind))

-- the first place is before the second, or the same
abbrev pub IsUpTo : Place → Place → Type 0
IsUpTo a b = IsBefore a b ⊎ (a ≡ b)
