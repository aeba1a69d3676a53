-- What the bodies of a chain say, one after the other (RFC 8909, section 2).
use Rattle.std.specs.Prelude.{◌≡◌, ℕ, Bool, true, false, List, [], ◌∷◌, Option, Some, None}
use Rattle.std.specs.Prelude.{Result, Ok, Err, sum_by}
use Rattle.std.specs.List.{list_all, flat_map}
use Rattle.esc_bundle.specs.declared.refusal.Refusal.{Refusal}
use Rattle.esc_tables.specs.DepositValue.{DepositValue}
use Rattle.esc_tables.specs.Reading.{reading}
use Rattle.esc_apply.specs.Registry.{saturated}
use Rattle.esc_acceptance.specs.declared.chain.ChainFacts.{ChainFacts}

-- the deposit that was read, if one was
abbrev pub read_deposits : Result DepositValue Refusal → List DepositValue
read_deposits (Ok d) = d ∷ []
read_deposits (Err e) = []

-- the deposit of a body, if it is there and is one
abbrev pub deposits_in : Option (List ℕ) → List DepositValue
deposits_in None = []
deposits_in (Some body) = read_deposits (reading body)

-- whether there is one
abbrev pub is_one : List DepositValue → Bool
is_one [] = false
is_one (d ∷ ds) = true

-- how many orphans these deposits have
abbrev pub orphan_count : List DepositValue → ℕ
orphan_count ds = sum_by (λ (d : DepositValue). d.orphans) ds

-- what these bodies say: whether each is there and is a deposit, and how many orphans the deposits
-- among them have
pub record AreFactsOf (bodies : List (Option (List ℕ))) (facts : ChainFacts) : Type 0 where
  pub read : facts.are_read ≡ list_all (λ b. is_one (deposits_in b)) bodies
  pub orphans : facts.orphans ≡ saturated (orphan_count (flat_map deposits_in bodies))
