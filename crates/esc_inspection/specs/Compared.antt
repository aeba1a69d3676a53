-- Tables that are compared, key by key, with what deposits say (RFC 8909, section 2).
use Rattle.std.specs.Prelude.{◌≡◌, ℕ, Bool, true, false, ◌||◌, List, map, Option, None}
use Rattle.std.specs.BTreeSet as sorted
use Rattle.std.specs.List.{list_any, list_all, flat_map}
use Rattle.std.specs.Map.{lookup}
use Rattle.esc_tables.specs.KeyName.{KeyName, key_cmp, key_eq}
use Rattle.esc_tables.specs.ObjectValue.{ObjectValue}
use Rattle.esc_tables.specs.DepositValue.{DepositValue}
use Rattle.esc_apply.specs.ObjectStreams.{Entry}
use Rattle.esc_apply.specs.Tables.{mentions, tables}
use Rattle.esc_acceptance.specs.Chains.{deposits_in, is_one}
use Rattle.esc_inspection.specs.declared.comparison.Comparison.{Comparison}

-- these entries are the tables of these deposits
abbrev pub AreTablesOf : List DepositValue → List Entry → Type 0
AreTablesOf c es = (q : KeyName) → lookup (key_eq q) es ≡ tables c q

-- each of these bodies is a deposit, and these entries are the tables of the deposits
pub record AreTablesOfBodies (bodies : List (Option (List ℕ))) (es : List Entry) : Type 0 where
  pub read : list_all (λ b. is_one (deposits_in b)) bodies ≡ true
  pub tables : AreTablesOf (flat_map deposits_in bodies) es

-- just these keys are marked, those of entries by their places, the others by themselves; and where
-- nothing differed, the entries have at each of them what is said of it
pub record AreMarked (es : List Entry) (marked : KeyName → Bool)
    (said : KeyName → Option ObjectValue) (comparison : Comparison) : Type 0 where
  pub seen : comparison.seen.items ≡ map (λ (e : Entry). marked e.0) es
  pub absent : (q : KeyName) → lookup (key_eq q) es ≡ None
      → sorted.contains key_cmp comparison.absent q ≡ marked q
  pub same : comparison.is_same ≡ true → (q : KeyName) → marked q ≡ true
      → lookup (key_eq q) es ≡ said q

-- these keys are marked, too, and what is given is compared at those that weren't
abbrev pub Marks : List Entry → List KeyName → (KeyName → Option ObjectValue)
    → Comparison → Comparison → Type 0
Marks es keys given old new = (marked : KeyName → Bool) (said : KeyName → Option ObjectValue)
    → ((q : KeyName) → marked q ≡ false → list_any (key_eq q) keys ≡ true → given q ≡ said q)
    → AreMarked es marked said old
    → AreMarked es (λ q. marked q || list_any (key_eq q) keys) said new

-- the keys that some of these deposits mention are marked, and the entries are compared there with
-- the tables of these deposits
abbrev pub AreComparedWith : List DepositValue → List Entry → Comparison → Type 0
AreComparedWith c es = AreMarked es (λ q. list_any (mentions q) c) (tables c)

-- where nothing differs, each of these bodies is a deposit, and the entries are compared with the
-- deposits
pub record AreComparedWithBodies (bodies : List (Option (List ℕ))) (es : List Entry)
    (comparison : Comparison) : Type 0 where
  pub read : comparison.is_same ≡ true → list_all (λ b. is_one (deposits_in b)) bodies ≡ true
  pub compared : comparison.is_same ≡ true
      → AreComparedWith (flat_map deposits_in bodies) es comparison
