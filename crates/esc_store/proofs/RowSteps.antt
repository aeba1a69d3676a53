-- What parts do to rows, receipts, bodies and steps.
use Rattle.esc_store.proofs.Common.{◌≡◌, ℕ, zero, suc, take, get_or, ◌+◌, ◌<◌, ◌≤◌, Bool, true}
use Rattle.esc_store.proofs.Common.{false, filter, List, Option, [], ◌∷◌, ◌++◌, length, map, None, Some}
use Rattle.esc_store.proofs.Common.{refl, sym, ap, subst, ◌∙◌, arith, Result, Ok, pos, ◌<ℤ◌}
use Rattle.esc_store.proofs.Common.{ℤ, int_eq, ◌==◌, if◌then◌else◌, option_map, is_some, AllByRecursion}
use Rattle.esc_store.proofs.Common.{ints, append-nil, length-map, length-take-le, get_or-map, ChainStep}
use Rattle.esc_store.proofs.Common.{Step, step_row, Database, HasCleanDisk, survives_then}
use Rattle.esc_store.proofs.Common.{IsKeyedBy, insert_by, cases_Bool, inl, inr, Less, nat_tests}
use Rattle.esc_store.proofs.Common.{IfOk-at_ok, on_ok_weaker, KeepsCommit, Survives, true≢false}
use Rattle.esc_store.proofs.Common.{ReceiptRow, StepRow, Content, content_in, HoldsContent, Tells}
use Rattle.esc_store.proofs.Common.{Becomes, last_number, StoreState, with_body, ReceiptValue, IsBooks}
use Rattle.esc_store.proofs.Common.{receipts_from, steps_from, ContinuesSteps, IsStep, IsLook, was_clean, body_of}
use Rattle.std.proofs.Common.{ltb, append_assoc, Ordering, Equal, Greater, int_cmp}
use Rattle.sqlite.specs.State.{State}
use Rattle.sqlite_keyed.specs.Keyed.{get_by}
use Rattle.sqlite_keyed.proofs.KeyedLemmas.{same_int, lt_from_Less}
use Rattle.std.specs.Ordering.{match_ordering}
use Rattle.std.proofs.lemmas.Cmp.{int_ranked}
use Rattle.std.proofs.lemmas.Bool.{lt-ltb, le-ltb, ltb-true}
use Rattle.esc_sql.specs.StoreTable.{Receipts}
use Rattle.esc_sql.specs.Rows.{HeldRow, receipt_number, held_number}
use Rattle.esc_sql.specs.Changes.{AddsReceipt, AddsStep, HoldsBody, steps_before}
use Rattle.esc_store.specs.StoreState.{with_receipt, with_steps}
use Rattle.esc_store.specs.TypedRows.{numbered_receipt}
use Rattle.esc_store.specs.ChangeParts.{next_number, with_next_receipt, AddsNext, with_steps_from}
use Rattle.esc_store.proofs.Ends.{keeps_then}
use Rattle.esc_store.proofs.Parts.{Turns, turning, Becoming, books_as}
use Rattle.esc_store.proofs.Reading.{counted}
use Rattle.esc_store.proofs.Registries.{at_branch}
use Rattle.esc_store.proofs.Numbered.{from_append, from_next, from_size, from_nth}

-- ---- receipts

-- a step after a first part, which leaves of it what the step needs
step_then : {Y E : Type 0} {old mid new : State} {Made Made' : Database → Database → Type 0}
    {r : Result Y E} → Survives old mid (λ trees. ⊥) → (HasCleanDisk mid → KeepsCommit old mid)
    → (HasCleanDisk mid → (old.in_transaction ≡ true) × (Made mid.now new.now → Made' old.now new.now))
    → IsStep mid new Made r → IsStep old new Made' r
step_then {old = old} {mid} {new} {r = r} survives kept first step = record {
  survives = survives_then old mid new _ _ _ (λ _ db none. none) (λ _ db none. none) survives step.survives;
  kept = λ clean. keeps_then old mid new (kept (was_clean step.survives clean)) (step.kept clean);
  made = λ clean. let f = first (was_clean step.survives clean) in
      on_ok_weaker r (λ m. (f.0, f.1 m.1, m.2, m.3)) (step.made clean);
  failed = step.failed;
}

below_next : (rs : List ReceiptRow) (n : ℕ) → IsKeyedBy receipt_number rs
    → last_number rs + 1 ≡ n → AllByRecursion (λ (x : ReceiptRow). x.receipt < n) rs
below_next [] n keyed is = tt
below_next (r ∷ []) n keyed is = (omega (arith, is), tt)
below_next (r ∷ (s ∷ rs)) n keyed is =
    let others = below_next (s ∷ rs) n keyed.1 is in
    let first : pos r.receipt <ℤ pos s.receipt = keyed.0.0 in
    let second : s.receipt < n = others.0 in
    (omega (arith, ints), others)

-- after the last receipt's number was read, the next receipt is added
pub step_next : {Y Z D E : Type 0} (old mid new : State) (r : Result ℕ D)
    (last : ℕ) (v : ReceiptValue) (row : ReceiptRow) (y : Y) (z : Z) → old.in_transaction ≡ true
    → IsLook old mid (Tells (λ c (found : ℕ). found ≡ last_number c.receipts)) r → r ≡ Ok last
    → row ≡ numbered_receipt (last + 1) v → IsStep {X = Y} {E = E} mid new (AddsReceipt row) (Ok y)
    → IsStep {X = Z} {E = E} old new (AddsNext v) (Ok z)
step_next old mid new r last v row y z on look is row_is step =
    let done = step_then {Made' = AddsNext v}
    look.survives look.kept (λ clean. (on, adds clean)) step in
    record { survives = done.survives; kept = done.kept; made = done.made; failed = done.failed }
  where
    adds : HasCleanDisk mid → AddsReceipt row mid.now new.now → AddsNext v old.now new.now
    adds clean added c h =
        let s = IfOk-at_ok _ is (look.said clean) in
        let there : HoldsContent mid.now c = subst (λ db. HoldsContent db c) (sym s.1.0.now_is) h in
        let next : row ≡ numbered_receipt (next_number c) v =
        row_is ∙ ap (λ n. numbered_receipt (n + 1) v) (s.0 c h) in
        (rw next at (added c there)) (below_next c.receipts (next_number c) (h.store.ordered Receipts) refl)

-- the books with one more receipt
pub books_receipt : (k : StoreState) (r : ReceiptValue) (c c' : Content)
    → Becoming (with_next_receipt r) c c' → IsBooks c k → IsBooks c' (with_receipt k r)
books_receipt k r c c' turn books = books_as turn.is books.listed
    (ap (λ (rs : List ReceiptRow). rs ++ numbered_receipt (last_number rs + 1) r ∷ []) books.receipts
    ∙ sym (from_append numbered_receipt receipts_from (λ _. refl)
    (λ _ _ _. refl) 1 _ k.receipts (r ∷ []) (ap (λ n. n + 1) (sym (counted k.receipts)))))
    books.held books.parked books.moment books.steps

-- ---- bodies

get_put : {X : Type 0} (key : X → ℤ) (xs : List X) (new : X) (id : ℤ) → get_by
    key (insert_by key xs new) id ≡ (if int_eq (key new) id then Some new else get_by key xs id)
get_put key [] new id = refl
get_put {X} key (x ∷ xs) new id = go (int_cmp (key x) (key new))
    (int_eq (key x) id) (int_eq (key new) id) refl refl refl (get_put key xs new id) where
      go : (o : Ordering) (b c : Bool) → int_cmp (key x) (key new) ≡ o
          → int_eq (key x) id ≡ b → int_eq (key new) id ≡ c → get_by key (insert_by key xs new) id
          ≡ (if int_eq (key new) id then Some new else get_by key xs id)
          → get_by key (match_ordering o (x ∷ insert_by key xs new) (new ∷ xs) (new ∷ x ∷ xs)) id
          ≡ (if int_eq (key new) id then Some new else get_by key (x ∷ xs) id)
      go Less true true e p q more = let lt = lt_from_Less (key x) (key new) e in let at =
          same_int (key x) id p in let there = same_int (key new) id q in absurd (omega (arith, ints))
      go Less true false e p q more = rw (p, q)
      go Less false c e p q more = rw p more
      go Equal b true e p q more = rw q
      go Equal true false e p q more = let same = int_ranked (key x) (key new) Equal (sym e) in
          absurd (true≢false (sym (rw same at p) ∙ q))
      go Equal false false e p q more = rw (p, q)
      go Greater b c e p q more = refl

-- a content with one more held body
abbrev pub with_held_row : HeldRow → Content → Content
with_held_row h c = record c { held = insert_by held_number c.held h }

-- holding a body turns the content into one that has it
pub held_turns : (h : HeldRow) (old new : Database)
    → HoldsBody h old new → Turns (Becoming (with_held_row h)) old new
held_turns h old new made = turning (λ tables. (
  with_held_row h (content_in old.trees),
  (made (content_in old.trees) tables).0,
  record { is = refl },
))

-- the books with one more held body
pub books_held : (k : StoreState) (h : HeldRow) (c c' : Content)
    → Becoming (with_held_row h) c c' → IsBooks c k → IsBooks c' (with_body k h.row h.body)
books_held k h c c' turn books =
    books_as turn.is books.listed books.receipts body books.parked books.moment books.steps where
      body : (n : ℕ) → body_of n (insert_by held_number c.held h) ≡ (if n == h.row then Some h.body else k.bodies n)
      body n =
          let test : int_eq (pos h.row) (pos n) ≡ (n == h.row) = grind (arith, nat_tests, ints) in
          ap (option_map (λ (x : HeldRow). x.body)) (get_put held_number c.held h (pos n))
          ∙ rw test (at_branch (λ (o : Option HeldRow) (b : Option (List ℕ)). option_map
          (λ (x : HeldRow). x.body) o ≡ b) (n == h.row) refl (books.held n))

-- nothing comes of nothing
pub none_in : {X Y : Type 0} (f : X → Y) (o : Option X) → is_some o ≡ false → option_map f o ≡ None
none_in f None none = refl
none_in f (Some x) none = absurd cc

-- ---- steps

abbrev step_of : ℕ → ℕ → StepRow
step_of n row = record { pos = n; row = row }

steps_append : (n m : ℕ) (front rows : List ℕ)
    → length front + n ≡ m → steps_from n (front ++ rows) ≡ steps_from n front ++ steps_from m rows
steps_append = from_append step_of steps_from (λ _. refl) (λ _ _ _. refl)

steps_below : (n m : ℕ) (rows : List ℕ)
    → length rows + n ≤ m → AllByRecursion (λ (x : StepRow). x.pos < m) (steps_from n rows)
steps_below n m [] h = tt
steps_below n m (x ∷ rows) h = (omega (arith, h), steps_below (suc n) m rows (omega (arith, h)))

-- ---- the front that stays

none_before : (at n : ℕ) (rows : List ℕ)
    → at ≤ n → filter (λ (s : StepRow). ltb s.pos at) (steps_from n rows) ≡ []
none_before at n [] h = refl
none_before at n (row ∷ rows) h = rw (le-ltb n at h) (none_before at (suc n) rows (omega (arith, h)))

front_before : (n front at : ℕ) (rows : List ℕ) → n + front ≡ at
    → filter (λ (s : StepRow). ltb s.pos at) (steps_from n rows) ≡ steps_from n (take front rows)
front_before n zero at rows is = none_before at n rows (omega (arith, is))
front_before n (suc front) at [] is = refl
front_before n (suc front) at (row ∷ rows) is =
    rw (lt-ltb n at (omega (arith, is))) (ap (λ l. record { pos = n; row = row } ∷ l)
    (front_before (suc n) front at rows (omega (arith, is))))

-- the steps before a number, and then these from it on, are below each number past them
all_below : (at m : ℕ) (ss : List StepRow) (rows : List ℕ) → length rows + at ≤ m → AllByRecursion
    (λ (x : StepRow). x.pos < m) (filter (λ (s : StepRow). ltb s.pos at) ss ++ steps_from at rows)
all_below at m [] rows h = steps_below at m rows h
all_below at m (s ∷ ss) rows h = elim (cases_Bool (ltb s.pos at)) [
  | inl is ↦ rw is (omega (arith, ltb-true s.pos at is, h), all_below at m ss rows h)
  | inr past ↦ rw past (all_below at m ss rows h)
]

-- the books with other steps from a place on
pub books_steps : (k : StoreState) (front at : ℕ) (rows : List ℕ) → at ≡ front + 1
    → front ≤ length k.steps → (c c' : Content) → Becoming (with_steps_from at rows) c c'
    → IsBooks c k → IsBooks c' (with_steps k (take front k.steps ++ rows))
books_steps k front at rows at_is within c c' turn books =
    books_as turn.is books.listed books.receipts books.held books.parked books.moment
    (ap (λ (ss : List StepRow). filter (λ (s : StepRow). ltb s.pos at) ss ++ steps_from at rows) books.steps
    ∙ (ap (λ (ss : List StepRow). ss ++ steps_from at rows) (front_before 1 front at k.steps (omega (arith, at_is)))
    ∙ sym (steps_append 1 at (take front k.steps)
    rows (let size = length-take-le front k.steps within in omega (arith, size, at_is)))))

-- ---- one step more

-- no step is past the front
pub steps_cut : {Y E : Type 0} {old new : State} (at : ℕ) {y : Y} → IsStep {X = Y} {E = E} old new
    (Becomes (steps_before at)) (Ok y) → IsStep {X = Y} {E = E} old new (ContinuesSteps at []) (Ok y)
steps_cut {Y} {E} {old} {new} at step = record {
  survives = step.survives;
  kept = step.kept;
  made = λ clean. let m = step.made clean in (
    m.0,
    λ c h. subst (λ (ss : List StepRow). HoldsContent new.now (record c { steps = ss }))
        (sym (append-nil (steps_before at c).steps)) (m.1 c h),
    m.2,
    m.3,
  );
  failed = step.failed;
}

-- one more step after those that were written
pub steps_more : {Y E : Type 0} {old mid new : State} (at : ℕ) (rows : List ℕ) (row : ℕ)
    (s : StepRow) {y : Y} {done : Result Y E} → s ≡ record { pos = length rows + at; row = row }
    → IsStep {X = Y} {E = E} old mid (ContinuesSteps at rows) (Ok y) → IsStep mid new (AddsStep s) done
    → IsStep old new (ContinuesSteps at (rows ++ (row ∷ []))) done
steps_more {old = old} {mid} {new} at rows row s s_is before step = step_then
    before.survives before.kept (λ clean. let b = before.made clean in (b.0, sets b.1)) step where
      sets : ContinuesSteps at rows old.now mid.now
          → AddsStep s mid.now new.now → ContinuesSteps at (rows ++ (row ∷ [])) old.now new.now
      sets first second c h =
          let front = (steps_before at c).steps in
          let number : s.pos ≡ length rows + at = ap (λ (x : StepRow). x.pos) s_is in
          let all = all_below at s.pos c.steps rows (omega (arith, number)) in
          let e : (front ++ steps_from at rows) ++ (s ∷ []) ≡ front ++ steps_from at (rows ++ (row ∷ [])) =
          append_assoc front (steps_from at rows) (s ∷ [])
          ∙ ap (λ (l : List StepRow). front ++ l) (ap (λ x. steps_from at rows ++ (x ∷ [])) s_is
          ∙ sym (steps_append at (length rows + at) rows (row ∷ []) refl)) in
          subst (λ (ss : List StepRow). HoldsContent new.now (record c { steps = ss }))
          e (second (with_steps_from at rows c) (first c h) all)

-- ---- the steps one by one

-- the step at a place
pub step_nth : (n : ℕ) (ss : List ChainStep) (rows : List ℕ) (i : ℕ) (d : ChainStep)
    → map step_row ss ≡ steps_from n rows → i < length ss
    → step_row (get_or ss i d) ≡ record { pos = length (take i rows) + n; row = get_or rows i 0 }
step_nth n ss rows i d = from_nth step_of steps_from (λ _. refl) (λ _ _ _. refl) step_row n ss rows i d 0

-- there are as many steps as rows
pub same_length : (n : ℕ) (ss : List ChainStep) (rows : List ℕ)
    → map step_row ss ≡ steps_from n rows → length ss ≡ length rows
same_length = from_size step_of steps_from (λ _. refl) (λ _ _ _. refl) step_row

-- the first steps of a chain, and one more
pub steps_stored : (first : ℕ) (ss : List StepRow) (steps : List Step) (i n row : ℕ) (d : Step)
    → ss ≡ steps_from first (take i (map (λ (s : Step). s.row) steps))
    → i < length steps → n ≡ i + first → row ≡ (get_or steps i d).row
    → ss ++ (record { pos = n; row = row } ∷ [])
    ≡ steps_from first (take (i + 1) (map (λ (s : Step). s.row) steps))
steps_stored first ss steps i n row d e lt n_is row_is =
    let row_of : Step → ℕ = λ (s : Step). s.row in
    let size : length (map row_of steps) ≡ length steps = length-map steps row_of in
    let there : get_or (map row_of steps) i 0 ≡ row = get_or-map row_of steps i d 0 lt ∙ sym row_is in
    let taken : length (take i (map row_of steps)) ≡ i = length-take-le i (map row_of steps) (omega arith) in
    from_next step_of steps_from (λ _. refl) (λ _ _ _. refl) first ss (map row_of steps)
    i (record { pos = n; row = row }) 0 e (omega arith) (rw (n_is, taken, there) refl)
