-- Where there is no orphan in sum, no deposit has one.
use Rattle.std.specs.List.{All, flat_map}
use Rattle.std.proofs.Common.{◌≡◌, ℕ, List, [], ◌∷◌, map, Option, None, Some, Result, Ok, Err}
use Rattle.std.proofs.Common.{refl, arith}
use Rattle.std.specs.Prelude.{sum_by}
use Rattle.std.proofs.lemmas.List.Sums.{sum_by-append}
use Rattle.std.proofs.lemmas.List.Elements.{All-nil, All-cons}
use Rattle.esc_bundle.specs.declared.refusal.Refusal.{Refusal}
use Rattle.esc_tables.specs.DepositValue.{DepositValue}
use Rattle.esc_tables.specs.Reading.{reading}
use Rattle.esc_apply.specs.Registry.{saturated}
use Rattle.esc_events.specs.StateAfter.{deposit_of, or_no_deposit}
use Rattle.esc_acceptance.specs.Chains.{deposits_in, read_deposits}

-- how many orphans these deposits have
abbrev orphans_in : List DepositValue → ℕ
orphans_in ds = sum_by (λ (d : DepositValue). d.orphans) ds

-- a sum up to the greatest number that is 0 is 0
pub sum_is_zero : (n : ℕ) → saturated n ≡ 0 → n ≡ 0
sum_is_zero n e = omega (arith, e)

-- the orphans of a body are those of its deposit
in_body : (body : Option (List ℕ)) → orphans_in (deposits_in body) ≡ (deposit_of reading body).orphans
in_body None = refl
in_body (Some body) = by_read (reading body)
  where
    by_read : (r : Result DepositValue Refusal) → orphans_in (read_deposits r) ≡ (or_no_deposit r).orphans
    by_read (Ok d) = omega arith
    by_read (Err e) = refl

-- no deposit of these rows has one
pub none_each : (bodies : ℕ → Option (List ℕ)) (rows : List ℕ)
    → orphans_in (flat_map deposits_in (map bodies rows)) ≡ 0
    → All (λ (row : ℕ). (deposit_of reading (bodies row)).orphans ≡ 0) rows
none_each bodies [] e = All-nil _
none_each bodies (r ∷ rows) e =
    let both = sum_by-append (λ (d : DepositValue). d.orphans) (deposits_in (bodies r))
    (flat_map deposits_in (map bodies rows)) in
    let first = in_body (bodies r) in
    let none : (deposit_of reading (bodies r)).orphans ≡ 0 = omega (arith, both, first, e) in
    All-cons (λ (row : ℕ). (deposit_of reading (bodies row)).orphans ≡ 0) r rows none
    (none_each bodies rows (omega (arith, both, e)))
