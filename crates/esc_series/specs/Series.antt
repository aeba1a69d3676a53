-- A series: one deposit in several bundles (this project's profile of RFC 8909, section 2).
use Rattle.std.specs.Prelude.{◌≡◌, ◌⊎◌, ◌<◌, ℕ, zero, suc, List, [], length, slice_index_or}
use Rattle.std.specs.Prelude.{AllPairs}
use Rattle.std.specs.List.{flat_map, list_any}
use Rattle.esc_envelope.specs.declared.place.DepositType.{DepositType}
use Rattle.esc_envelope.specs.declared.place.DepositType.TheVariants.{Diff}
use Rattle.esc_tables.specs.KeyName.{KeyName, key_eq}
use Rattle.esc_tables.specs.DepositValue.{DepositValue}
use Rattle.esc_apply.specs.ObjectStreams.{Entry}
use Rattle.esc_apply.specs.Registry.{IsEntriesOf}
use Rattle.esc_apply.specs.Tables.{deletes_of, says}

-- the type of the part with this number, from 0, of a deposit of this type: the deposit's own type
-- of the first, and else a Differential
abbrev pub part_type : DepositType → ℕ → DepositType
part_type type zero = type
part_type type (suc number) = Diff

-- there is a part, and each has the type of its number
pub record AreTyped (type : DepositType) (parts : List DepositValue) : Type 0 where
  pub some : 0 < length parts
  pub each : (k : ℕ) (d : DepositValue) → k < length parts
      → (slice_index_or parts k d).header.place.kind ≡ part_type type k

-- the deletes of all parts that count, one part after another
abbrev pub all_deletes : List DepositValue → List KeyName
all_deletes parts = flat_map deletes_of parts

-- the contents of all parts, one part after another
abbrev pub all_contents : List DepositValue → List Entry
all_contents parts = flat_map (λ p. p.contents) parts

-- of two parts, the earlier has no contents, or the later has no deletes that count
abbrev pub DeletesFirst : DepositValue → DepositValue → Type 0
DeletesFirst earlier later = (earlier.contents ≡ []) ⊎ (deletes_of later ≡ [])

-- the parts are a series of a deposit. The first is of its type, and each other one is a
-- Differential. They delete the keys that the deposit deletes. Their contents are what the deposit
-- says: each object stands whole in one part. No part deletes after an earlier one has contents
pub record IsSeriesOf (parts : List DepositValue) (d : DepositValue) : Type 0 where
  pub types : AreTyped d.header.place.kind parts
  pub deletes : (q : KeyName) → list_any (key_eq q) (all_deletes parts)
      ≡ list_any (key_eq q) (deletes_of d)
  pub contents : IsEntriesOf (λ q. says q d) (all_contents parts)
  pub deletes_first : AllPairs DeletesFirst parts
