-- What a store of version 1 keeps stands for its manifest and its arrivals as early ones.
use Rattle.std.proofs.Common.{◌≡◌, inl, inr, ℕ, ℤ, Bool, true, false, ◌&&◌, List, [], ◌∷◌, map}
use Rattle.std.proofs.Common.{Option, Some, None, is_some, is_none, cond, refl, sym, ap, ap₂, subst}
use Rattle.std.proofs.Common.{◌∙◌, true≢false}
use Rattle.std.specs.List.{find, list_any, Any}
use Rattle.std.specs.Str.{bytes_eq}
use Rattle.std.specs.Cmp.{both_ways}
use Rattle.std.specs.Cmp.Lexicographic.{bytes_decides}
use Rattle.std.proofs.lemmas.Bool.{and_parts}
use Rattle.std.proofs.lemmas.Option.{same_Some, none-some}
use Rattle.sha2.specs.Sha256.{sha256}
use Rattle.esc_tables.specs.Reading.{reading}
use Rattle.esc_manifest.specs.declared.row.MRow.{MRow}
use Rattle.esc_manifest.specs.Extension.{extended}
use Rattle.esc_chain.specs.Chain.{IsLatestChainAt}
use Rattle.esc_store.specs.StoreState.{StoreState, SaysHeld}
use Rattle.esc_store.specs.ListLaws.{any_weaker}
use Rattle.esc_events.specs.ArrivalValue.{ArrivalValue}
use Rattle.esc_events.specs.Events.{EventValue, Coming, early_coming, union_after, union, comings_after}
use Rattle.esc_events.specs.Events.{comings, moment_after, last_moment}
use Rattle.esc_events.specs.Events.EventValue.{arrived_early}
use Rattle.esc_events.specs.Assessment.{found_at, row_with_digest}
use Rattle.esc_events.specs.FirstVersion.{StoodFor, events_before, first_arrivals}
use Rattle.esc_events.specs.Receipts.{holds_row, holds, alike, distinct, receipts_after}
use Rattle.esc_events.specs.StateAfter.{Among, IsApart, CameFor, IsStateAfter, TellsOf, arrived_body}
use Rattle.esc_events.specs.StateAfter.{holds_by, has_digest, is_lost, kept_arrivals, held_body}
use Rattle.esc_events.specs.StateAfter.{parked_body}
use Rattle.esc_desk.proofs.AmendingLemmas.{row_has, row_found, find_never}
use Rattle.esc_desk.proofs.Distinct.{alike_laws, any_alike}
use Rattle.esc_desk.proofs.EventLemmas.{none_is_listed}
use Rattle.esc_desk.proofs.HeldReceipts.{any_holds, any_says}
use Rattle.esc_desk.proofs.Lost.{counted_came, counted_kept, came_counts}
use Rattle.esc_desk.proofs.Members.{any_of, one_of, first_of, distinct_among, any_found}
use Rattle.esc_desk.proofs.SameHeld.{same_found}

-- ---- the events

union_of_early : (m : List MRow) (l : List ArrivalValue) → union_after m (map arrived_early l) ≡ m
union_of_early m [] = refl
union_of_early m (a ∷ l) = union_of_early m l

comings_of_early : (m : List MRow) (l : List ArrivalValue)
    → comings_after m (map arrived_early l) ≡ map (early_coming m) l
comings_of_early m [] = refl
comings_of_early m (a ∷ l) = ap (λ (cs : List Coming). early_coming m a ∷ cs) (comings_of_early m l)

moment_of_early : (t : Option ℤ) (l : List ArrivalValue) → moment_after t (map arrived_early l) ≡ t
moment_of_early t [] = refl
moment_of_early t (a ∷ l) = moment_of_early t l

-- each of them came early, while the manifest's rows were listed
came_early : (m : List MRow) (l : List ArrivalValue) (c : Coming)
    → Among (map (early_coming m) l) c → (c.rows ≡ m) × (c.early ≡ true)
came_early m [] c there = absurd there
came_early m (a ∷ l) c (inl is) = (ap (λ (x : Coming). x.rows) is, ap (λ (x : Coming). x.early) is)
came_early m (a ∷ l) c (inr there) = came_early m l c there

module _ (m : List MRow) (l : List ArrivalValue) where
  abbrev before : List EventValue
  before = events_before m l

  abbrev first : List Coming
  first = first_arrivals sha256 reading m l

  union_is : union before ≡ m
  union_is = union_of_early (extended [] m) l ∙ none_is_listed m

  comings_are : comings before ≡ map (early_coming m) l
  comings_are = comings_of_early (extended [] m) l
      ∙ ap (λ (n : List MRow). map (early_coming n) l) (none_is_listed m)

  moment_is : last_moment before ≡ None
  moment_is = moment_of_early None l

  -- the arrivals that count; and whether one holds a row
  abbrev counts : List Coming
  counts = kept_arrivals sha256 reading before

  abbrev holding : ℕ → Coming → Bool
  holding r = holds_by sha256 reading (union before) r

  -- ---- an early arrival counts exactly if a row listed its body

  early_of : (c : Coming) → Among (comings before) c → (c.rows ≡ m) × (c.early ≡ true)
  early_of c there = came_early m l c (subst (λ (cs : List Coming). Among cs c) comings_are there)

  kept_by : (c : Coming) (r : ℕ) → Among (comings before) c
      → row_with_digest m (sha256 c.body) ≡ Some r → is_lost sha256 reading c ≡ false
  kept_by c r there lists =
      let is = early_of c there in
      ap₂ (λ (b : Bool) (x : List MRow). b && is_none (row_with_digest x (sha256 c.body))) is.1 is.0
      ∙ ap (λ (o : Option ℕ). is_none o) lists

  listed_by : (c : Coming) → Among counts c → row_with_digest m (sha256 c.body) ≡ None → ⊥
  listed_by c there none =
      let is = early_of c (counted_came sha256 reading before c there) in
      let lost : is_lost sha256 reading c ≡ true =
      ap₂ (λ (b : Bool) (x : List MRow). b && is_none (row_with_digest x (sha256 c.body))) is.1 is.0
      ∙ ap (λ (o : Option ℕ). is_none o) none in
      true≢false (sym lost ∙ counted_kept sha256 reading before c there)

  first_came : (c : Coming) → Among first c → Among (comings before) c
  first_came c there = subst (λ (cs : List Coming). Among cs c)
      (sym comings_are) (distinct_among sha256 reading (map (early_coming m) l) c there)

  -- by the rows that were listed when it came, and by those that are listed in the end, an arrival
  -- holds the same row
  holds_is : (r : ℕ) (c : Coming) → Among (comings before) c → holds sha256 reading r c ≡ holding r c
  holds_is r c there = ap (λ (x : List MRow). holds_row r (found_at
      x (row_with_digest x (sha256 c.body)) (reading c.body))) ((early_of c there).0 ∙ sym union_is)

  lists_held : (r : ℕ) (c : Coming) → holding r c ≡ true → row_with_digest m (sha256 c.body) ≡ Some r
  lists_held r c is = ap (λ (x : List MRow). row_with_digest x (sha256 c.body)) (sym union_is)
      ∙ row_found (union before) r (row_with_digest (union before) (sha256 c.body)) (reading c.body) is

  holder_counts : (r : ℕ) (c : Coming)
      → Among first c → holds sha256 reading r c ≡ true → Among counts c × (holding r c ≡ true)
  holder_counts r c there is =
      let came = first_came c there in
      let by : holding r c ≡ true = sym (holds_is r c came) ∙ is in
      (came_counts sha256 reading before c came (kept_by c r came (lists_held r c by)), by)

  -- ---- bodies, where no two different ones have the same digest

  module _ (apart : IsApart sha256 reading before) (r : ℕ) where
    -- two that hold the row have one body
    one_body : (b c : Coming) → Among counts b → Among counts c
        → holding r b ≡ true → holding r c ≡ true → b.body ≡ c.body
    one_body b c in_b in_c is_b is_c =
        apart b c in_b in_c (sym (row_has m (sha256 b.body) (lists_held r b is_b)).1
        ∙ (row_has m (sha256 c.body) (lists_held r c is_c)).1)

    -- where an arrival that counts holds the row, a distinct one does
    first_holds : (c : Coming)
        → Among counts c → holding r c ≡ true → list_any (holds sha256 reading r) first ≡ true
    first_holds c there is =
        let came : Among (map (early_coming m) l) c = subst (λ (cs : List Coming). Among cs c)
        comings_are (counted_came sha256 reading before c there) in
        let any : list_any (alike sha256 reading c) (map (early_coming m) l) ≡ true =
        any_of (alike sha256 reading c) (map (early_coming m) l) c came ((alike_laws sha256 reading).refl c) in
        let x = one_of (alike sha256 reading c)
        first (sym (any_alike sha256 reading (map (early_coming m) l) c) ∙ any) in
        let like = and_parts (bytes_eq c.number x.0.number) (bytes_eq (sha256 c.body) (sha256 x.0.body)) x.2 in
        let same : sha256 c.body ≡ sha256 x.0.body = (bytes_decides (sha256 c.body) (sha256 x.0.body)).0 like.1 in
        let lists : row_with_digest m (sha256 x.0.body) ≡ Some r =
        ap (λ (d : List ℕ). row_with_digest m d) (sym same) ∙ lists_held r c is in
        let it_counts = came_counts sha256 reading before x.0 (first_came x.0 x.1)
        (kept_by x.0 r (first_came x.0 x.1) lists) in
        let body : c.body ≡ x.0.body = apart c x.0 there it_counts same in
        any_of (holds sha256 reading r) first x.0 x.1
        (holds_is r x.0 (first_came x.0 x.1) ∙ ap (λ (b : List ℕ). holds_row r (found_at (union before)
        (row_with_digest (union before) (sha256 b)) (reading b))) (sym body) ∙ is)

    held_is : arrived_body (find (holds sha256 reading r) first) ≡ held_body sha256 reading before r
    held_is = same_found (find (holds sha256 reading r) first)
        (find (holding r) counts) (sym (any_found (holds sha256 reading r) first)
        ∙ both_ways _ _ there back ∙ any_found (holding r) counts) bodies
      where
        there : list_any (holds sha256 reading r) first ≡ true → list_any (holding r) counts ≡ true
        there any =
            let x = one_of (holds sha256 reading r) first any in
            let z = holder_counts r x.0 x.1 x.2 in
            any_of (holding r) counts x.0 z.0 z.1

        back : list_any (holding r) counts ≡ true → list_any (holds sha256 reading r) first ≡ true
        back any = let y = one_of (holding r) counts any in first_holds y.0 y.1 y.2

        bodies : (c b : Coming) → find (holds sha256 reading r) first ≡ Some c
            → find (holding r) counts ≡ Some b → c.body ≡ b.body
        bodies c b is at =
            let x = first_of (holds sha256 reading r) first c is in
            let y = first_of (holding r) counts b at in
            let z = holder_counts r c x.0 x.1 in
            one_body c b z.0 y.0 z.1 y.1

  -- no body that counts is one that no row lists
  none_parked : (d : List ℕ) → None ≡ parked_body sha256 reading before d
  none_parked d = by_row (row_with_digest m d) refl
      ∙ ap (λ (x : List MRow). cond (is_some (row_with_digest x d))
      None (arrived_body (find (has_digest sha256 reading d) counts))) (sym union_is)
    where
      by_row : (o : Option ℕ) → row_with_digest m d ≡ o → None ≡ cond (is_some (row_with_digest m d))
          None (arrived_body (find (has_digest sha256 reading d) counts))
      by_row (Some q) is = sym (ap (λ (o : Option ℕ). cond (is_some o)
          None (arrived_body (find (has_digest sha256 reading d) counts))) is)
      by_row None is =
          sym (ap (λ (o : Option ℕ). cond (is_some o)
          None (arrived_body (find (has_digest sha256 reading d) counts))) is
          ∙ ap arrived_body (find_never (has_digest sha256 reading d) counts
          (λ c there has. listed_by c there (ap (λ (x : List ℕ). row_with_digest m x)
          ((bytes_decides (sha256 c.body) d).0 has) ∙ is))))

-- ---- what is kept

-- a store of version 1 stands for its events
pub stands_early : (m : List MRow) (l : List ArrivalValue) (k : StoreState)
    → StoodFor sha256 reading m l k → IsStateAfter sha256 reading (events_before m l) k
stands_early m l k stood = record {
  books = record {
    listed = stood.listed ∙ sym (union_is m l);
    receipts = stood.receipts ∙ sym (ap (λ (cs : List Coming). receipts_after
        sha256 reading [] (distinct sha256 reading cs)) (comings_are m l));
    bodies = λ apart r. stood.bodies r ∙ held_is m l apart r;
    parked = λ apart d. stood.parked d ∙ none_parked m l d;
    moment = stood.moment ∙ sym (moment_is m l);
    came = λ r body at. came_for r body (find (holds sha256 reading r) (first m l)) refl (sym (stood.bodies r) ∙ at);
    waits = λ d body at. absurd (none-some _ (sym (stood.parked d) ∙ at));
    told = λ r any.
        ap is_some (stood.bodies r)
        ∙ sym (any_found (holds sha256 reading r) (first m l))
        ∙ any_holds sha256 reading r [] (first m l) (subst (Any (SaysHeld r)) stood.receipts any);
    held_told = λ r some. any_weaker (SaysHeld r)
        (TellsOf (union (events_before m l)) r) (λ receipt says. inl says) k.receipts
        (subst (Any (SaysHeld r)) (sym stood.receipts)
        (any_says sha256 reading r [] (first m l) (any_found (holds sha256 reading r) (first m l)
        ∙ sym (ap is_some (stood.bodies r)) ∙ some)));
    parked_told = λ d some. absurd (true≢false (sym some ∙ ap is_some (stood.parked d)));
  };
  held = stood.held;
  have_bodies = stood.have_bodies;
  chain = subst (λ (t : Option ℤ). IsLatestChainAt k.listed stood.held t k.steps) (sym stood.moment)
      (subst (λ (x : List MRow). IsLatestChainAt x stood.held None k.steps) (sym stood.listed) stood.chain);
  registry = stood.registry;
}
  where
    came_for : (r : ℕ) (body : List ℕ) (o : Option Coming) → find (holds sha256 reading r) (first m l)
        ≡ o → arrived_body (find (holds sha256 reading r) (first m l)) ≡ Some body
        → CameFor sha256 reading (events_before m l) r body
    came_for r body None none at = absurd (none-some _ (sym (ap arrived_body none) ∙ at))
    came_for r body (Some c) is at =
        let x = first_of (holds sha256 reading r) (first m l) c is in
        let z = holder_counts m l r c x.0 x.1 in
        record { arrival = c; among = z.0; holds = z.1; is_body = same_Some _ _ (sym (ap arrived_body is) ∙ at) }
