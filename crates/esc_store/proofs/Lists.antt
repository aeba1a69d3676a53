-- What a part of a change does that lists rows.
use Rattle.esc_store.proofs.Common.{◌≡◌, ℕ, suc, ◌+◌, List, [], ◌∷◌, ◌++◌, length, Option, Some}
use Rattle.esc_store.proofs.Common.{refl, ap, arith, pos, unwrap_or, ints, insert_by, MRow, ListedRow}
use Rattle.esc_store.proofs.Common.{listed_number, Content, StoreState, with_listed, IsBooks}
use Rattle.esc_store.proofs.Common.{HasMadeBooksIn}
use Rattle.esc_store.proofs.Common.{indexed_row, listed_from, Ghosts, Store, ChangeOf, IsUncommitted, survives_same}
use Rattle.sqlite_keyed.proofs.KeyedLemmas.{Less-from_lt}
use Rattle.esc_sql.specs.Changes.{with_listed_row}
use Rattle.esc_store.proofs.Parts.{Becoming, books_as}

-- the next row, put in its place
listed_put : (n m : ℕ) (rs : List MRow) (r : MRow) → length rs + n ≡ m
    → insert_by listed_number (listed_from n rs) (indexed_row m r) ≡ listed_from n (rs ++ r ∷ [])
listed_put n m [] r is = let e : m ≡ n = omega (arith, is) in rw e refl
listed_put n m (x ∷ rs) r is =
    rw (Less-from_lt (pos n) (pos m) (omega (arith, ints, is)))
    (ap (λ l. indexed_row n x ∷ l) (listed_put (suc n) m rs r (omega (arith, is))))

-- one more row in the manifest's table is one more listed row
pub books_listed : (k : StoreState) (row : ListedRow) (r : MRow)
    → row ≡ indexed_row (length k.listed) r → (c c' : Content) → Becoming (with_listed_row row) c c'
    → IsBooks c k → IsBooks c' (with_listed k (k.listed ++ r ∷ []))
books_listed k row r row_is c c' turn books = books_as
    turn.is (rw (row_is, books.listed) (listed_put 0 (length k.listed) k.listed r (omega arith)))
    books.receipts books.held books.parked books.moment books.steps

-- nothing was called
pub unchanged : {S : Type 0} {g : Ghosts S} {a : ChangeOf S} → IsUncommitted g a a
unchanged = record {
  same_reference = refl;
  manifest = refl;
  writes = refl;
  survives = survives_same;
  began = λ k h. h;
}

-- what a change lists, told of what it keeps
pub as_listed : {S : Type 0} (g : Ghosts S) (store : Store S)
    (listing : Option (List MRow)) (before k : StoreState) → HasMadeBooksIn g store listing before k
    → (unwrap_or listing store.manifest ≡ k.listed) × HasMadeBooksIn g store (Some k.listed) before k
unfolding HasMadeBooksIn
as_listed g store listing before k rest =
    (rest.listed, record { begun = rest.begun; listed = refl; books = rest.books })
