-- The objects of a deposit have records.
use Rattle.std.proofs.Common.{◌≡◌, ℕ, ◌≤◌, ◌<◌, ◌^◌, Bool, true, List, [], ◌∷◌, length}
use Rattle.std.proofs.Common.{refl, arith}
use Rattle.std.specs.Prelude.{All, IsSome}
use Rattle.std.specs.List.{list_all}
use Rattle.std.proofs.lemmas.Bool.Decides.{nat_tests}
use Rattle.std.proofs.lemmas.List.Elements.{All-tail}
use Rattle.esc_bundle.specs.Bundle.{limit}
use Rattle.esc_tables.specs.KeyName.{KeyName}
use Rattle.esc_tables.specs.ObjectValue.{RowValue, ObjectValue}
use Rattle.esc_tables.specs.SmallObject.{IsSmallRow, IsSmallObject}
use Rattle.esc_record.specs.Record.{is_small, is_small_cell, is_small_row, is_small_object, object_rows, record_of}

fits : (n : ℕ) → n ≤ limit → is_small n ≡ true
fits n h = let below : n < 2 ^ 32 = omega (arith, h) in grind (arith, nat_tests)

all_pass : {A : Type 0} (P : A → Type 0) (test : A → Bool)
    → ((x : A) → P x → test x ≡ true) → (xs : List A) → All P xs → list_all test xs ≡ true
all_pass P test each [] all = refl
all_pass P test each (x ∷ xs) all =
    rw (each x (all 0 x (omega arith))) (all_pass P test each xs (All-tail P x xs all))

abbrev IsSmallCell : List ℕ × List ℕ → Type 0
IsSmallCell c = (length c.0 ≤ 64) × (length c.1 ≤ limit)

cell_fits : (c : List ℕ × List ℕ) → IsSmallCell c → is_small_cell c ≡ true
cell_fits c small =
    let field : is_small (length c.0) ≡ true = fits (length c.0) (omega (arith, small.0)) in
    let text : is_small (length c.1) ≡ true = fits (length c.1) small.1 in
    rw (field, text) refl

row_fits : (row : RowValue) → IsSmallRow row → is_small_row row ≡ true
row_fits row small =
    let table : is_small (length row.table) ≡ true = fits (length row.table) (omega (arith, small.table)) in
    let few : is_small (length row.cells) ≡ true = fits (length row.cells) (omega (arith, small.few)) in
    rw (table, few, all_pass IsSmallCell is_small_cell cell_fits row.cells small.cells) refl

object_fits : (o : ObjectValue) → IsSmallObject o → is_small_object o ≡ true
object_fits o small =
    let few : is_small (length (object_rows o)) ≡ true = fits (length (object_rows o)) (omega (arith, small.few)) in
    rw (few, row_fits o.parent small.parent, all_pass IsSmallRow is_small_row row_fits o.children small.children) refl

has_record : (o : ObjectValue) → IsSmallObject o → IsSome (record_of o)
unfolding record_of
has_record o small = rw (object_fits o small) refl

-- small objects have records
pub have_records : (contents : List (KeyName × ObjectValue))
    → All (λ e. IsSmallObject e.1) contents → All (λ e. IsSome (record_of e.1)) contents
have_records contents all = λ k d below. has_record _ (all k d below)
