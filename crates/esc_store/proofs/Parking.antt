-- What parts of a change do to parked bodies and to the moment.
use Rattle.esc_store.proofs.Common.{◌≡◌, ℕ, ℤ, true, List, [], ◌∷◌, Option, None, Some, refl, sym, ap}
use Rattle.esc_store.proofs.Common.{subst, ◌∙◌, Result, Ok, IsSome, ◌↔◌, if◌then◌else◌, bytes_eq}
use Rattle.esc_store.proofs.Common.{Contains, nat_cmp, Less, slice_cmp, All-from_recursion, IfOk-at_ok}
use Rattle.esc_store.proofs.Common.{Ghosts}
use Rattle.esc_store.proofs.Common.{IsAscending, Database, state, HasCleanDisk, MRow, Content}
use Rattle.esc_store.proofs.Common.{content_in, Store, StoreState, with_parked, AreParked, IsBooks}
use Rattle.esc_store.proofs.Common.{IsStep, IsStoreRead}
use Rattle.esc_store.proofs.Common.{was_clean, parked_at, HasMadeBooksIn}
use Rattle.esc_sql.specs.Content.{moment_set}
use Rattle.esc_sql.specs.Rows.{MomentRow}
use Rattle.esc_sql.specs.Parked.{PutsParked, RemovesParked, ListsParked, SetsMoment, moment_row}
use Rattle.esc_store.specs.StoreState.{with_moment, AreRisingTexts}
use Rattle.esc_store.proofs.Parts.{Turns, turning, Becoming, become_turns, books_as}

-- under this digest there is this body, or none, and all else is as it was
pub record SetsParked (digest : List ℕ) (w : Option (List ℕ)) (c c' : Content) : Type 0 where
  pub only : c' ≡ record c { parked = c'.parked }
  pub map_is : (d : List ℕ) → parked_at d c'.parked ≡ (if bytes_eq digest d then w else parked_at d c.parked)

-- putting a parked body turns the content into one that has it
pub park_turns : (digest body : List ℕ) (old new : Database)
    → PutsParked digest body old new → Turns (SetsParked digest (Some body)) old new
park_turns digest body old new made = turning (λ tables. let m = made (content_in old.trees) tables in
    (record (content_in old.trees) { parked = m.0 }, m.1, record { only = refl; map_is = m.3 }))

-- removing a parked body turns the content into one without it
pub unpark_turns : (digest : List ℕ) (old new : Database)
    → RemovesParked digest old new → Turns (SetsParked digest None) old new
unpark_turns digest old new made = turning (λ tables. let m = made (content_in old.trees) tables in
    (record (content_in old.trees) { parked = m.0 }, m.1, record { only = refl; map_is = m.2 }))

-- the books with or without a parked body
pub books_parked : (k : StoreState) (digest : List ℕ) (w : Option (List ℕ)) (c c' : Content)
    → SetsParked digest w c c' → IsBooks c k → IsBooks c' (with_parked k digest w)
books_parked k digest w c c' set books = books_as set.only books.listed books.receipts books.held
    (λ d. set.map_is d ∙ ap (λ o. if bytes_eq digest d then w else o) (books.parked d)) books.moment books.steps

-- what is put was not there before
pub was_free : {S X E : Type 0} (g : Ghosts S) (old new : Store S)
    (digest body : List ℕ) {r : Result X E} {x : X} → r ≡ Ok x → IsStep (state g old.conn)
    (state g new.conn) (PutsParked digest body) r → HasCleanDisk (state g new.conn)
    → (listing : Option (List MRow)) (before k : StoreState)
    → HasMadeBooksIn g old listing before k → k.parked digest ≡ None
unfolding HasMadeBooksIn
was_free g old new digest body {r} {x} is step clean listing before k made =
    let m = IfOk-at_ok _ is (step.made clean) in
    let was = was_clean step.survives clean in
    let tables = (made.begun.on was m.0).2 in
    sym ((made.books was m.0).parked digest) ∙ (m.1 (content_in (state g old.conn).now.trees) tables).2

-- ---- the digests

rising_texts : (ds : List (List ℕ)) → IsAscending (λ a b. slice_cmp nat_cmp a b ≡ Less) ds → AreRisingTexts ds
rising_texts [] up = tt
rising_texts (d ∷ ds) up = (All-from_recursion (λ e. slice_cmp nat_cmp d e ≡ Less) ds up.0, rising_texts ds up.1)

-- the digests that are listed are those of the parked bodies
pub are_parked : (k : StoreState) (c : Content) (found : List (List ℕ))
    → IsBooks c k → ListsParked c found → AreParked k.parked found
are_parked k c found books lists = record {
  rising = rising_texts found lists.rising;
  each = λ d. subst (λ (o : Option (List ℕ)). Contains found d ↔ IsSome o) (books.parked d) (lists.each d);
}

-- ---- the moment

-- the books with a moment, or with none
pub books_moment : {rows : List MomentRow} {moment : Option ℤ}
    → moment_set rows ≡ moment → (k : StoreState) (c c' : Content)
    → Becoming (λ c. record c { moment = rows }) c c' → IsBooks c k → IsBooks c' (with_moment k moment)
books_moment is k c c' turn books = books_as turn.is books.listed books.receipts books.held books.parked is books.steps

-- setting a moment turns the content into one that has it
pub moment_turns : (v : ℤ) (old new : Database)
    → SetsMoment v old new → Turns (Becoming (λ c. record c { moment = moment_row v ∷ [] })) old new
moment_turns v old new made = become_turns _ old new (λ c holds. (made c holds).0)

-- ---- a change

-- what a read in a change says, of rows that are those of what the change keeps
pub found_books : {S X E : Type 0} {g : Ghosts S} {old new : Store S}
    {P : Content → X → Type 0} {r : Result X E} {x : X} → r ≡ Ok x → old.conn.in_transaction ≡ true
    → IsStoreRead g old new P r
    → HasCleanDisk (state g new.conn) → (listing : Option (List MRow)) (before k : StoreState)
    → HasMadeBooksIn g old listing before k → (c : Content) × P c x × IsBooks c k
unfolding HasMadeBooksIn
found_books {g = g} {old} is on read clean listing before k made =
    let was = was_clean read.look.survives clean in
    let c = content_in (state g old.conn).now.trees in
    (c, (IfOk-at_ok _ is (read.look.said clean)).0 c (made.begun.on was on).2, made.books was on)
