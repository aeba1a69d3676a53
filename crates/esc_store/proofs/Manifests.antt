-- A manifest in its table.
use Rattle.esc_store.proofs.Common.{◌≡◌, ℕ, suc, ◌+◌, ◌<◌, List, [], ◌∷◌, ◌++◌, length}
use Rattle.esc_store.proofs.Common.{take, get_or, map, Option, None, Some, refl, sym, ap, ◌∙◌, arith}
use Rattle.esc_store.proofs.Common.{Result, Ok, Err, pos, ◌<ℤ◌, AllByRecursion, ints, length-take-le}
use Rattle.esc_store.proofs.Common.{listed_row}
use Rattle.esc_store.proofs.Common.{◌≤◌, ap₂, take_more, map-append, IsKeyedBy, MRow, no_row, ListedRow}
use Rattle.esc_store.proofs.Common.{listed_number, indexed_row, listed_from}
use Rattle.esc_manifest.specs.declared.refusal.ManifestRefusal.{ManifestRefusal}
use Rattle.esc_manifest.specs.declared.fault.ManifestFault.{ManifestFault}
use Rattle.esc_manifest.specs.declared.fault.ManifestFault.TheVariants.{Refused}
use Rattle.esc_sql.specs.declared.listed.Listed.{Listed}
use Rattle.esc_store.proofs.Numbered.{from_next, from_size, from_nth}

-- what was accepted is what was given
pub accepted_is : (fault : Option (ManifestRefusal × ℕ)) (r : Result (List MRow) ManifestFault)
    (m rows : List MRow) → (fault ≡ None → r ≡ Ok rows) → ((code : ManifestRefusal) (row : ℕ)
    → fault ≡ Some (code, row) → r ≡ Err (Refused code row)) → r ≡ Ok m → m ≡ rows
accepted_is None r m rows good bad is = let e : Ok m ≡ Ok rows = sym is ∙ good refl in cc
accepted_is (Some (code, row)) r m rows good bad is =
    let e : Ok m ≡ Err (Refused code row) = sym is ∙ bad code row refl in let no : ⊥ = cc in absurd no

-- the table has as many rows as the manifest
pub listed_size : (ss : List Listed) (rs : List MRow)
    → map listed_row ss ≡ listed_from 0 rs → length ss ≡ length rs
listed_size = from_size indexed_row listed_from (λ _. refl) (λ _ _ _. refl) listed_row 0

-- so many rows are before it
place : (rs : List MRow) (i : ℕ) → i ≤ length rs → length (take i rs) + 0 ≡ i
place rs i within = let size = length-take-le i rs within in omega arith

-- one more row of the manifest is one more of the table
pub one_stored : (rs : List MRow) (ss : List Listed) (i : ℕ) (d : MRow) (s : Listed)
    → map listed_row ss ≡ listed_from 0 (take i rs) → i < length rs → listed_row s
    ≡ indexed_row i (get_or rs i d) → map listed_row (ss ++ (s ∷ [])) ≡ listed_from 0 (take (i + 1) rs)
one_stored rs ss i d s so_far below is =
    map-append listed_row ss (s ∷ []) ∙ from_next indexed_row listed_from (λ _. refl)
    (λ _ _ _. refl) 0 (map listed_row ss) rs i (listed_row s) d so_far below
    (is ∙ ap (λ n. indexed_row n (get_or rs i d)) (sym (place rs i (omega arith))))

-- the stored form of a row at its place
pub stored_get : (ss : List Listed) (rs : List MRow) (i : ℕ) (d : Listed) → map listed_row ss
    ≡ listed_from 0 rs → i < length ss → listed_row (get_or ss i d) ≡ indexed_row i (get_or rs i no_row)
stored_get ss rs i d e lt =
    let size = listed_size ss rs e in
    from_nth indexed_row listed_from (λ _. refl) (λ _ _ _. refl) listed_row 0 ss rs i d no_row e lt
    ∙ ap (λ n. indexed_row n (get_or rs i no_row)) (place rs i (omega arith))

-- one more row of the table is one more of the manifest
pub one_row : (ss : List Listed) (rs : List MRow) (i : ℕ) (d : Listed) (rows : List MRow) (row : MRow)
    → map listed_row ss ≡ listed_from 0 rs → i < length ss → rows ≡ take i rs
    → ((n : ℕ) (r : MRow) → listed_row (get_or ss i d) ≡ indexed_row n r → row ≡ r)
    → rows ++ (row ∷ []) ≡ take (i + 1) rs
one_row ss rs i d rows row e lt so_far is =
    let size = listed_size ss rs e in
    ap₂ (λ l x. l ++ (x ∷ [])) so_far (is i (get_or rs i no_row) (stored_get ss rs i d e lt))
    ∙ sym (take_more rs i no_row (omega arith))

above : (n m : ℕ) (rs : List MRow)
    → n < m → AllByRecursion (λ (x : ListedRow). pos n <ℤ listed_number x) (listed_from m rs)
above n m [] lt = tt
above n m (r ∷ rs) lt = (omega (arith, ints), above n (suc m) rs (omega arith))

-- the table's rows are numbered in order
pub listed_rise : (n : ℕ) (rs : List MRow) → IsKeyedBy listed_number (listed_from n rs)
listed_rise n [] = tt
listed_rise n (r ∷ rs) = (above n (suc n) rs (omega arith), listed_rise (suc n) rs)
