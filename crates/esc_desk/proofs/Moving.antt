-- A store stands for one more event: nothing moves, or the chain moves by a plan.
use Rattle.std.proofs.Common.{◌≡◌, ℕ, ℤ, ◌<◌, ◌≤◌, ◌*◌, ◌^◌, true, Option, Some, None}
use Rattle.std.proofs.Common.{is_some, Result, Ok, Err}
use Rattle.std.proofs.Common.{List, [], ◌∷◌, ◌++◌, length, map, take, drop, refl, sym, ap, ap₂, subst}
use Rattle.std.proofs.Common.{◌∙◌, arith, true≢false, length-append}
use Rattle.std.specs.Prelude.{sum_by, slice_index}
use Rattle.std.specs.List.{take-map, drop-map, AllByRecursion}
use Rattle.std.specs.FinSet as set
use Rattle.std.specs.FinSet.{nat_cmp-IsAntisymmetric}
use Rattle.std.specs.Cmp.{nat_cmp_total}
use Rattle.std.proofs.lemmas.List.{take-append-drop, map-append, length-map, length-drop, drop_all}
use Rattle.std.proofs.lemmas.List.Sums.{sum_by-append, sum_by-cons}
use Rattle.sha2.specs.Sha256.{sha256}
use Rattle.esc_bundle.specs.declared.refusal.Refusal.{Refusal}
use Rattle.esc_tables.specs.KeyName.{key_cmp}
use Rattle.esc_tables.specs.DepositValue.{DepositValue}
use Rattle.esc_tables.specs.Reading.{reading}
use Rattle.esc_manifest.specs.declared.row.MRow.{MRow}
use Rattle.esc_manifest.specs.Accepted.{IsAccepted}
use Rattle.esc_chain.specs.Chain.{Rows, InRange, AreHeldRows, IsLatestChainAt}
use Rattle.esc_chain.specs.Laws.{LatestChainsAtAreHeldRows}
use Rattle.esc_apply.specs.declared.front.Step.{Step}
use Rattle.esc_apply.specs.declared.moves.Work.{Work}
use Rattle.esc_apply.specs.Front.{common_front}
use Rattle.esc_apply.specs.Images.{chain_state}
use Rattle.esc_apply.specs.Moves.{cost}
use Rattle.esc_apply.specs.Tables.{mention_count}
use Rattle.esc_store.specs.StoreState.{StoreState, AreHeld, kept_chain, step_at}
use Rattle.esc_events.specs.declared.plan.Plan.{Plan}
use Rattle.esc_events.specs.Events.{EventValue, union, last_moment}
use Rattle.esc_events.specs.Plans.{AreLatestSteps, IsMovedFrom, IsCostOfMove, deposits_past, rows_in_steps, moved_by}
use Rattle.esc_events.specs.LatestTables.{IsChainOf}
use Rattle.esc_events.specs.Works.{no_work}
use Rattle.esc_events.specs.StateAfter.{HaveBodies, AreBooks, IsStateAfter, IsApart, deposit_of}
use Rattle.esc_events.specs.StateAfter.{or_no_deposit, deposits_of, held_rows, held_body}
use Rattle.esc_events.specs.Works.{chain_cost, IsWorkOf, MentionsFew}
use Rattle.esc_desk.proofs.FrontLemmas.{same_front}
use Rattle.esc_desk.proofs.Lost.{counted_before}
use Rattle.esc_desk.proofs.MovingLemmas.{each_of, same_maps, same_deposits, first_step, accepted_first}
use Rattle.esc_desk.proofs.MovingLemmas.{contains_held, have_bodies, true_of, held_within}
use Rattle.esc_desk.proofs.MovingLemmas.{front_of_same, no_move}

module _ (few : MentionsFew) where
  few_of : (body : List ℕ) (told : Result DepositValue Refusal)
      → reading body ≡ told → mention_count (or_no_deposit told) ≤ 100_000
  few_of body (Ok d) is = few body d is
  few_of body (Err n) is = omega (arith, set.len-empty key_cmp)

  few_in : (o : Option (List ℕ)) → mention_count (deposit_of reading o) ≤ 100_000
  few_in None = omega (arith, set.len-empty key_cmp)
  few_in (Some body) = few_of body (reading body) refl

  few_sum : (bodies : ℕ → Option (List ℕ)) (rows : List ℕ)
      → sum_by mention_count (deposits_of reading bodies rows) ≤ 100_000 * length rows
  few_sum bodies [] = omega arith
  few_sum bodies (r ∷ rows) = omega (
    arith,
    sum_by-cons mention_count (deposit_of reading (bodies r))
        (deposits_of reading bodies rows),
    few_in (bodies r),
    few_sum bodies rows,
  )

  few_writes : (f g : ℕ → Option (List ℕ)) (old new : List ℕ) → length old ≤ 4096 → length new ≤ 4096
      → sum_by mention_count (deposits_of reading f old ++ deposits_of reading g new) < 2 ^ 64
  few_writes f g old new few_old few_new =
      omega (
        arith,
        sum_by-append mention_count (deposits_of reading f old) (deposits_of reading g new),
        few_sum f old,
        few_sum g new,
        few_old,
        few_new,
      )

-- no two different bodies of the longer list have the same digest, and so of the shorter one
pub apart_before : (e : List EventValue) (x : EventValue)
    → IsApart sha256 reading (e ++ x ∷ []) → IsApart sha256 reading e
apart_before e x apart a b first second same = apart a b (counted_before sha256 reading e x a first)
    (counted_before sha256 reading e x b second) same

-- the steps of a store are the latest chain of what is held
pub chain_of : (e : List EventValue) (k : StoreState)
    → IsStateAfter sha256 reading e k → IsApart sha256 reading e → IsChainOf e k.steps
chain_of e k stood apart =
    subst (λ (h : Rows). IsLatestChainAt (union e) h (last_moment e) k.steps) same
    (subst (λ (t : Option ℤ). IsLatestChainAt (union e) stood.held t k.steps) stood.books.moment
    (subst (λ (m : List MRow). IsLatestChainAt m stood.held k.moment k.steps) stood.books.listed stood.chain))
  where
    same : stood.held ≡ held_rows sha256 reading e
    same = set.same_set nat_cmp_total nat_cmp-IsAntisymmetric _ _ (λ r. stood.have_bodies r
        ∙ ap is_some (stood.books.bodies apart r) ∙ sym (contains_held sha256 reading e r))

-- a store with the books of f, and the rows, bodies, moment, chain and tables of one that stands
-- for e, stands for f
pub stands_still : (e f : List EventValue) (k l : StoreState)
    → IsStateAfter sha256 reading e k → AreBooks sha256 reading f l
    → l.listed ≡ k.listed → l.bodies ≡ k.bodies → l.moment ≡ k.moment
    → l.steps ≡ k.steps → l.registry ≡ k.registry → IsStateAfter sha256 reading f l
stands_still e f k l stood books rows bodies moment steps registry = record {
  books = books;
  held = stood.held;
  have_bodies = subst (λ (b : ℕ → Option (List ℕ)). HaveBodies b stood.held) (sym bodies) stood.have_bodies;
  chain = subst (λ (c : List ℕ). IsLatestChainAt l.listed stood.held l.moment c) (sym steps)
      (subst (λ (t : Option ℤ). IsLatestChainAt l.listed stood.held t k.steps) (sym moment)
      (subst (λ (m : List MRow). IsLatestChainAt m stood.held k.moment k.steps) (sym rows) stood.chain));
  registry = registry ∙ stood.registry ∙ ap₂ (λ (b : ℕ → Option (List ℕ)) (c : List ℕ). chain_state
      (deposits_of reading b c)) (sym bodies) (sym steps);
}

-- a chain that stays costs nothing
cost_of_same : (e f : List EventValue) (rows : List ℕ)
    → union f ≡ union e → chain_cost e f rows rows ≡ no_work
cost_of_same e f rows same =
    let steps = map (step_at (union e)) rows in
    let deposits : List DepositValue = deposits_of reading (held_body sha256 reading e) rows in
    let past_front : ℕ → List DepositValue = λ n. deposits_of reading (held_body sha256 reading f) (drop n rows) in
    let front : common_front steps steps ≡ length rows =
    front_of_same steps ∙ length-map rows (step_at (union e)) in
    let past : drop (common_front steps steps) rows ≡ [] =
    drop_all (common_front steps steps) rows (omega (arith, front)) in
    ap (λ (m : List MRow). cost deposits steps (map (step_at m) rows)
    (past_front (common_front steps (map (step_at m) rows)))) same
    ∙ ap (λ (rest : List ℕ). cost
    deposits steps steps (deposits_of reading (held_body sha256 reading f) rest)) past
    ∙ no_move steps deposits (length-map rows (λ r. deposit_of reading (held_body sha256 reading e r))
    ∙ sym (length-map rows (step_at (union e))))

-- a chain that stays is no work
pub no_work_of : (e : List EventValue) (x : EventValue) (k l : StoreState)
    → IsStateAfter sha256 reading e k → IsStateAfter sha256 reading (e ++ x ∷ []) l
    → union (e ++ x ∷ []) ≡ union e → l.steps ≡ k.steps → IsWorkOf e x no_work
no_work_of e x k l stood stands rows steps apart = record {
  before = k.steps;
  after = k.steps;
  latest_before = chain_of e k stood (apart_before e x apart);
  latest_after = subst (λ (c : List ℕ). IsChainOf (e ++ x ∷ []) c) steps (chain_of (e ++ x ∷ []) l stands apart);
  is_cost = sym (cost_of_same e (e ++ x ∷ []) k.steps rows);
}

-- the rows of the steps of rows
pub rows_of_steps : (m : List MRow) (rows : List ℕ) → rows_in_steps (map (step_at m) rows) ≡ rows
rows_of_steps m [] = refl
rows_of_steps m (r ∷ rows) = ap (λ (l : List ℕ). r ∷ l) (rows_of_steps m rows)

-- the deposits of a store's chain are those of a plan's old one
pub moved_from : (e : List EventValue) (k : StoreState) (plan : Plan)
    → IsStateAfter sha256 reading e k → plan.old.items ≡ kept_chain k
    → IsMovedFrom k (deposits_of reading k.bodies k.steps) plan
moved_from e k plan stood old = record {
  steps = sym (ap rows_in_steps old ∙ rows_of_steps k.listed k.steps);
  count = length-map k.steps (λ r. deposit_of reading (k.bodies r))
      ∙ sym (ap length old ∙ length-map k.steps (step_at k.listed));
  registry = stood.registry;
}

-- the chain moves by a plan: k stands for the events e, l has the books of e and one more event,
-- but k's chain; the rows that l lists begin with those of k, and the bodies that k holds are held
-- by l
module _ (law : LatestChainsAtAreHeldRows) (e : List EventValue) (x : EventValue) (k l : StoreState)
    (stood : IsStateAfter sha256 reading e k) (books : AreBooks sha256 reading (e ++ x ∷ []) l)
    (more : List MRow) (begins : l.listed ≡ k.listed ++ more)
    (keeps : (r : ℕ) (body : List ℕ) → k.bodies r ≡ Some body → l.bodies r ≡ Some body)
    (rows : List ℕ) (held : AreHeld l.bodies rows)
    (plan : Plan) (latest : AreLatestSteps l.listed rows l.moment plan.new.items)
    (old : plan.old.items ≡ kept_chain k) where
  abbrev front : ℕ
  front = common_front plan.old.items plan.new.items

  abbrev after : List ℕ
  after = rows_in_steps plan.new.items

  some_of : (r : ℕ) → set.contains stood.held r ≡ true → (body : List ℕ) × (k.bodies r ≡ Some body)
  some_of r there = by_body (k.bodies r) refl
    where
      by_body : (o : Option (List ℕ)) → k.bodies r ≡ o → (body : List ℕ) × (k.bodies r ≡ Some body)
      by_body None is = absurd (true≢false (sym there ∙ stood.have_bodies r ∙ ap is_some is))
      by_body (Some body) is = (body, is)

  held_in_range : InRange k.listed stood.held
  held_in_range r there =
      let some = some_of r (true_of _ there) in
      let came = stood.books.came r some.0 some.1 in
      subst (λ (m : List MRow). r < length m)
      (sym stood.books.listed) (held_within sha256 reading (union e) r came.arrival came.holds)

  old_accepted : IsAccepted k.listed
  old_accepted = accepted_first k.listed more (subst IsAccepted begins latest.accepted)

  old_rows : AreHeldRows k.listed stood.held k.steps
  old_rows = law k.listed stood.held k.moment k.steps old_accepted held_in_range stood.chain

  new_rows : AreHeldRows l.listed (set.from_list rows) after
  new_rows = law l.listed (set.from_list rows) l.moment after latest.accepted latest.in_range latest.latest

  old_in_range : (i : ℕ) → i < length k.steps → slice_index k.steps i < length l.listed
  old_in_range i within = subst (λ (m : List MRow). slice_index k.steps i < length m)
      (sym begins) (omega (arith, old_rows.in_range i within, length-append k.listed more))

  same_steps : map (step_at k.listed) k.steps ≡ map (step_at l.listed) k.steps
  same_steps = same_maps (step_at k.listed)
      (step_at l.listed) k.steps (each_of (λ r. step_at k.listed r ≡ step_at l.listed r) k.steps one)
    where
      one : (i : ℕ) → i < length k.steps
          → step_at k.listed (slice_index k.steps i) ≡ step_at l.listed (slice_index k.steps i)
      one i within = sym (ap (λ (m : List MRow). step_at m (slice_index k.steps i)) begins
          ∙ first_step k.listed more (slice_index k.steps i) (old_rows.in_range i within))

  kept : AllByRecursion (λ r. deposit_of reading (k.bodies r) ≡ deposit_of reading (l.bodies r)) k.steps
  kept = each_of (λ r. deposit_of reading (k.bodies r) ≡ deposit_of reading (l.bodies r))
      k.steps (λ i within. one (slice_index k.steps i) (true_of _ (old_rows.held i within)))
    where
      one : (r : ℕ) → set.contains stood.held r ≡ true
          → deposit_of reading (k.bodies r) ≡ deposit_of reading (l.bodies r)
      one r there = let some = some_of r there in ap (deposit_of reading) (some.1 ∙ sym (keeps r some.0 some.1))

  new_deposits : deposits_past plan l.bodies ≡ deposits_of reading l.bodies (drop front after)
  new_deposits = ap (deposits_of reading l.bodies) (sym (drop-map (λ (s : Step). s.row) front plan.new.items))

  -- the deposits of the old chain up to the common front, and those past it, are those of the new
  -- chain
  deposits_are : take front (deposits_of reading k.bodies k.steps)
      ++ deposits_past plan l.bodies ≡ deposits_of reading l.bodies after
  deposits_are =
      let fronts : front ≡ common_front (map (step_at l.listed) k.steps)
      (map (step_at l.listed) after) = ap₂ common_front (old ∙ same_steps) latest.are_steps in
      let old_within = each_of (λ r. r < length l.listed) k.steps old_in_range in
      let new_within = each_of (λ r. r < length l.listed) after new_rows.in_range in
      let rows_same : take front k.steps ≡ take front after =
      subst (λ (n : ℕ). take n k.steps ≡ take n after) (sym fronts)
      (same_front l.listed latest.accepted k.steps after old_within new_within) in
      let g : ℕ → DepositValue = λ r. deposit_of reading (l.bodies r) in
      let first : take front (deposits_of reading k.bodies k.steps) ≡ map g (take front after) =
      ap (λ (ds : List DepositValue). take front ds) (same_maps (λ r. deposit_of reading (k.bodies r))
      g k.steps kept) ∙ take-map g front k.steps ∙ ap (map g) rows_same in
      ap₂ (λ (xs ys : List DepositValue). xs ++ ys) first new_deposits ∙ sym (map-append
      g (take front after) (drop front after)) ∙ ap (map g) (take-append-drop front after)

  pub stands_moved : IsStateAfter sha256 reading (e ++ x ∷ [])
      (moved_by plan l (deposits_of reading k.bodies k.steps))
  stands_moved = record {
    books = record {
      listed = books.listed;
      receipts = books.receipts;
      bodies = books.bodies;
      parked = books.parked;
      moment = books.moment;
      came = books.came;
      waits = books.waits;
      told = books.told;
      held_told = books.held_told;
      parked_told = books.parked_told;
    };
    held = set.from_list rows;
    have_bodies = have_bodies l.bodies rows held;
    chain = latest.latest;
    registry = ap chain_state deposits_are;
  }

  few_moved : MentionsFew → length plan.old.items ≤ 4096 → length plan.new.items ≤ 4096
      → sum_by mention_count (deposits_of reading k.bodies k.steps ++ deposits_past plan l.bodies) < 2 ^ 64
  few_moved few few_old few_new =
      let olds : length k.steps ≤ 4096 =
      omega (arith, few_old, ap length old, length-map k.steps (step_at k.listed)) in
      let news : length (drop front after) ≤ 4096 = omega
      (arith, few_new, length-drop front after, length-map plan.new.items (λ (s : Step). s.row)) in
      subst (λ (ds : List DepositValue). sum_by
      mention_count (deposits_of reading k.bodies k.steps ++ ds) < 2 ^ 64) (sym new_deposits)
      (few_writes few k.bodies l.bodies k.steps (drop front after) olds news)

  move_cost : IsApart sha256 reading (e ++ x ∷ [])
      → cost (deposits_of reading k.bodies k.steps) plan.old.items
      plan.new.items (deposits_past plan l.bodies) ≡ chain_cost e (e ++ x ∷ []) k.steps after
  move_cost apart =
      let was = held_body sha256 reading e in
      let now = held_body sha256 reading (e ++ x ∷ []) in
      let old_are : plan.old.items ≡ map (step_at (union e)) k.steps =
      old ∙ ap (λ (m : List MRow). map (step_at m) k.steps) stood.books.listed in
      let new_are : plan.new.items ≡ map (step_at (union (e ++ x ∷ []))) after =
      latest.are_steps ∙ ap (λ (m : List MRow). map (step_at m) after) books.listed in
      let before : deposits_of reading k.bodies k.steps ≡ deposits_of reading was k.steps =
      same_deposits k.bodies was (stood.books.bodies (apart_before e x apart)) k.steps in
      let past : deposits_past plan l.bodies ≡ deposits_of reading now (drop front after) =
      new_deposits ∙ same_deposits l.bodies now (books.bodies apart) (drop front after) in
      ap₂ (λ (c ds : List DepositValue). cost c plan.old.items plan.new.items ds) before past
      ∙ ap₂ (λ (a b : List Step). cost (deposits_of reading was k.steps)
      a b (deposits_of reading now (drop (common_front a b) after))) old_are new_are

  pub works_moved : MentionsFew → length plan.old.items ≤ 4096 → length plan.new.items ≤ 4096
      → (work : Work) → IsCostOfMove plan l.bodies (deposits_of reading k.bodies k.steps) work → IsWorkOf e x work
  works_moved few few_old few_new work cost apart = record {
    before = k.steps;
    after = after;
    latest_before = chain_of e k stood (apart_before e x apart);
    latest_after = chain_of (e ++ x ∷ []) (moved_by plan l (deposits_of reading k.bodies k.steps)) stands_moved apart;
    is_cost = cost (few_moved few few_old few_new) ∙ move_cost apart;
  }

-- a move by a plan after the event x: k stands for the events before it; l has the books with it,
-- and k's chain and tables; its listed rows begin with those of k, and it holds the bodies that k
-- does; the plan goes to the latest steps of the rows of which l holds a body
pub record IsMove (e : List EventValue) (x : EventValue) (k l : StoreState) (more : List MRow)
    (rows : List ℕ) (plan : Plan) : Type 0 where
  pub stood : IsStateAfter sha256 reading e k
  pub books : AreBooks sha256 reading (e ++ x ∷ []) l
  pub begins : l.listed ≡ k.listed ++ more
  pub keeps : (r : ℕ) (body : List ℕ) → k.bodies r ≡ Some body → l.bodies r ≡ Some body
  pub held : AreHeld l.bodies rows
  pub latest : AreLatestSteps l.listed rows l.moment plan.new.items
  pub old : plan.old.items ≡ kept_chain k

-- after such a move the store stands for the events with x
pub move_stands : LatestChainsAtAreHeldRows → (e : List EventValue)
    (x : EventValue) (k l : StoreState) (more : List MRow) (rows : List ℕ) (plan : Plan)
    → IsMove e x k l more rows plan → IsStateAfter sha256 reading (e ++ x ∷ [])
    (moved_by plan l (deposits_of reading k.bodies k.steps))
move_stands law e x k l more rows plan is =
    stands_moved law e x k l is.stood is.books more is.begins is.keeps rows is.held plan is.latest is.old

-- and the work is the cost of the move
pub move_is_work : LatestChainsAtAreHeldRows → MentionsFew → (e : List EventValue)
    (x : EventValue) (k l : StoreState) (more : List MRow) (rows : List ℕ) (plan : Plan)
    → IsMove e x k l more rows plan → length plan.old.items ≤ 4096 → length plan.new.items ≤ 4096
    → (work : Work) → IsCostOfMove plan l.bodies (deposits_of reading k.bodies k.steps) work → IsWorkOf e x work
move_is_work law few e x k l more rows plan is =
    works_moved law e x k l is.stood is.books more is.begins is.keeps rows is.held plan is.latest is.old few
