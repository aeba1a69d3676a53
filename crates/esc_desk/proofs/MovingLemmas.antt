-- The rows that are held, the first rows of a longer manifest, and a chain that stays.
use Rattle.std.proofs.Common.{◌≡◌, ℕ, suc, ◌+◌, ◌-◌, ◌<◌, ◌≤◌, Bool, true, false, cond}
use Rattle.std.proofs.Common.{◌&&◌, ◌==◌}
use Rattle.std.proofs.Common.{List, [], ◌∷◌, ◌++◌, length, map, drop, Option, Some, is_some, IsSome}
use Rattle.std.proofs.Common.{IfSome, IsTrue, Result}
use Rattle.std.proofs.Common.{refl, sym, ap, ap₂, subst, subst₂, ◌∙◌, arith, length-append}
use Rattle.std.specs.Prelude.{◌<ℤ◌, sum_by, nat_lt, slice_index}
use Rattle.std.specs.List.{list_any, prefix_len, zip, AllByRecursion}
use Rattle.std.specs.FinSet as set
use Rattle.std.specs.Ordering.{nat_cmp, eq_by_cmp}
use Rattle.std.specs.Cmp.{both_ways, nat_cmp_total, eq_by_cmp_equiv}
use Rattle.std.proofs.lemmas.Bool.Decides.{nat_tests, Decides-int_eq}
use Rattle.std.proofs.lemmas.List.{drop_all, get_or_append_left}
use Rattle.std.proofs.lemmas.List.Folds.{length-prefix_len}
use Rattle.std.proofs.lemmas.Map.Views.{list_any-from_Contains, Contains-from_any}
use Rattle.esc_bundle.specs.declared.refusal.Refusal.{Refusal}
use Rattle.esc_envelope.specs.Id.{is_id}
use Rattle.esc_envelope.specs.Place.{rank}
use Rattle.esc_envelope.specs.Watermark.{IsInYears}
use Rattle.esc_tables.specs.DepositValue.{DepositValue}
use Rattle.esc_tables.specs.Reading.{reading}
use Rattle.esc_manifest.specs.declared.row.MRow.{MRow}
use Rattle.esc_manifest.specs.ManifestRows.{no_row, row_at}
use Rattle.esc_manifest.specs.Accepted.{IsAccepted}
use Rattle.esc_apply.specs.declared.front.Step.{Step}
use Rattle.esc_apply.specs.Tables.{mention_count}
use Rattle.esc_apply.specs.Front.{same_step, common_front}
use Rattle.esc_apply.specs.Moves.{is_cleared, undone_of, work_of, cost}
use Rattle.esc_store.specs.StoreState.{AreHeld, step_at}
use Rattle.esc_events.specs.Events.{EventValue, Coming, union}
use Rattle.esc_events.specs.Works.{no_work}
use Rattle.esc_events.specs.StateAfter.{HaveBodies, holds_by, kept_arrivals, held_rows, held_body, deposits_of}
use Rattle.esc_events.specs.HeldLaws.{same_self, exact}
use Rattle.esc_desk.proofs.AmendingLemmas.{row_held}
use Rattle.esc_desk.proofs.HeldRows as rows
use Rattle.esc_desk.proofs.Members.{any_found}

-- ---- each row of a list
pub each_of : (P : ℕ → Type 0) (rows : List ℕ)
    → ((i : ℕ) → i < length rows → P (slice_index rows i)) → AllByRecursion P rows
each_of P [] all = tt
each_of P (r ∷ rows) all = (all 0 (omega arith), each_of P rows (λ i within. all (suc i) (omega (arith, within))))

-- two functions that agree on rows map them alike
pub same_maps : {X : Type 0} (f g : ℕ → X) (rows : List ℕ)
    → AllByRecursion (λ r. f r ≡ g r) rows → map f rows ≡ map g rows
same_maps f g [] all = refl
same_maps {X = X} f g (r ∷ rows) all = ap₂ (λ (d : X) (ds : List X). d ∷ ds) all.0 (same_maps f g rows all.1)

-- the deposits of rows by bodies that are the same
pub same_deposits : (f g : ℕ → Option (List ℕ)) → ((r : ℕ) → f r ≡ g r)
    → (rows : List ℕ) → deposits_of reading f rows ≡ deposits_of reading g rows
same_deposits f g same rows = λ i. deposits_of reading (λ r. same r i) rows

-- ---- the first rows of an accepted manifest
module _ (m more : List MRow) where
  pub first_row : (r : ℕ) → r < length m → row_at (m ++ more) r ≡ row_at m r
  first_row r within = get_or_append_left m more no_row r within

  pub first_step : (r : ℕ) → r < length m → step_at (m ++ more) r ≡ step_at m r
  first_step r within = ap (λ (row : MRow). record {
    row = r;
    place = row.header.place;
    resend = row.header.resend;
  }) (first_row r within)

  still_there : (r : ℕ) → r < length m → r < length (m ++ more)
  still_there r within = omega (arith, within, length-append m more)

  pub accepted_first : IsAccepted (m ++ more) → IsAccepted m
  accepted_first all = record {
    few = omega (arith, all.few, length-append m more);
    ids = λ r r_in. subst (λ (row : MRow). IsTrue (is_id row.header.id))
        (first_row r r_in) (all.ids r (still_there r r_in));
    prevs = λ r r_in. subst (λ (row : MRow). IfSome row.header.prev (λ id. IsTrue (is_id id)))
        (first_row r r_in) (all.prevs r (still_there r r_in));
    watermarks = λ r r_in. subst (λ (row : MRow). IsInYears row.header.place.watermark)
        (first_row r r_in) (all.watermarks r (still_there r r_in));
    resends = λ r r_in. subst (λ (row : MRow). row.header.resend ≤ 999999)
        (first_row r r_in) (all.resends r (still_there r r_in));
    one_revision = λ q r q_in r_in place resend. all.one_revision q r (still_there q q_in) (still_there r r_in)
        (ap (λ (row : MRow). row.header.place) (first_row q q_in)
        ∙ place ∙ ap (λ (row : MRow). row.header.place) (sym (first_row r r_in)))
        (ap (λ (row : MRow). row.header.resend) (first_row q q_in)
        ∙ resend ∙ ap (λ (row : MRow). row.header.resend) (sym (first_row r r_in)));
    one_place = λ q r q_in r_in id. ap (λ (row : MRow). row.header.place) (sym (first_row q q_in))
        ∙ all.one_place q r (still_there q q_in)
        (still_there r r_in) (ap (λ (row : MRow). row.header.id) (first_row q q_in)
        ∙ id ∙ ap (λ (row : MRow). row.header.id) (sym (first_row r r_in)))
        ∙ ap (λ (row : MRow). row.header.place) (first_row r r_in);
    has_prev = λ r r_in kind. subst (λ (row : MRow). IsSome row.header.prev) (first_row r r_in)
        (all.has_prev r (still_there r r_in) (ap (λ (row : MRow). row.header.place.kind) (first_row r r_in) ∙ kind));
    prev_earlier = λ q r q_in r_in kind prev. subst₂ (λ (a b : MRow). a.header.place.watermark
        <ℤ b.header.place.watermark) (first_row q q_in) (first_row r r_in)
        (all.prev_earlier q r (still_there q q_in)
        (still_there r r_in) (ap (λ (row : MRow). row.header.place.kind) (first_row r r_in) ∙ kind)
        (ap (λ (row : MRow). row.header.prev) (first_row r r_in)
        ∙ prev ∙ ap (λ (row : MRow). Some row.header.id) (sym (first_row q q_in))));
    one_digest = λ q r q_in r_in digest. all.one_digest q r (still_there q q_in) (still_there r r_in)
        (ap (λ (row : MRow). row.digest) (first_row q q_in)
        ∙ digest ∙ ap (λ (row : MRow). row.digest) (sym (first_row r r_in)));
  }

-- ---- the rows that are held

module _ (digest : List ℕ → List ℕ) (reads : List ℕ → Result DepositValue Refusal) where
  -- a row is held exactly if there is a body of it
  pub contains_held : (e : List EventValue) (r : ℕ)
      → set.contains (held_rows digest reads e) r ≡ is_some (held_body digest reads e r)
  contains_held e r = rows.contains_held digest reads (union e) (kept_arrivals digest reads e) r
      ∙ any_found (holds_by digest reads (union e) r) (kept_arrivals digest reads e)

-- a Bool that is true
pub true_of : (b : Bool) → IsTrue b → b ≡ true
true_of true is = refl
true_of false is = is

-- rising rows that are held have bodies
pub have_bodies : (bodies : ℕ → Option (List ℕ)) (rows : List ℕ)
    → AreHeld bodies rows → HaveBodies bodies (set.from_list rows)
have_bodies bodies rows held r = set.contains-from_list nat_cmp_total rows r ∙ both_ways _ _ there back
  where
    there : list_any (eq_by_cmp nat_cmp r) rows ≡ true → is_some (bodies r) ≡ true
    there any = true_of _ ((held.each r).0 (Contains-from_any exact r rows any))

    back : is_some (bodies r) ≡ true → list_any (eq_by_cmp nat_cmp r) rows ≡ true
    back some = list_any-from_Contains (eq_by_cmp_equiv nat_cmp_total)
        r rows ((held.each r).1 (subst IsTrue (sym some) refl))

-- a row that a body holds is the manifest's
pub held_within : (digest : List ℕ → List ℕ) (reads : List ℕ → Result DepositValue Refusal)
    (m : List MRow) (r : ℕ) (c : Coming) → holds_by digest reads m r c ≡ true → r < length m
held_within digest reads m r c is = (row_held digest reads m r c is).0

-- ---- a chain that stays is no work

same_itself : (s : Step) → same_step (s, s) ≡ true
same_itself s = rw (
  (Decides-int_eq s.place.watermark s.place.watermark).1 refl,
  same_self (rank s.place.kind),
  same_self s.resend,
) refl

all_same : (steps : List Step) → prefix_len same_step (zip steps steps) ≡ length steps
all_same [] = refl
all_same (s ∷ steps) = rw (same_itself s) (omega (arith, all_same steps))

-- a chain has all of itself in front
pub front_of_same : (steps : List Step) → common_front steps steps ≡ length steps
front_of_same steps = length-prefix_len same_step (zip steps steps) ∙ all_same steps

uncleared : (n : ℕ) → is_cleared n n ≡ false
uncleared n = by_test (n == 0) refl
  where
    by_test : (b : Bool) → (n == 0) ≡ b → (b && nat_lt 0 n) ≡ false
    by_test true is = grind (arith, nat_tests, is)
    by_test false is = refl

nothing_undone : (c : List DepositValue) (n : ℕ) → length c ≡ n → undone_of c n ≡ []
nothing_undone c n same = by_test (is_cleared (length c) n)
  where
    by_test : (b : Bool) → cond b [] (drop n c) ≡ []
    by_test true = refl
    by_test false = drop_all n c (omega (arith, same))

no_undo : (n : ℕ) (b : Bool) → cond b 0 (n - n) ≡ 0
no_undo n true = refl
no_undo n false = omega arith

nothing_done : (n : ℕ) (c : List DepositValue)
    → length c ≡ n → work_of n n (n - n) (sum_by mention_count (undone_of c n) + 0) ≡ no_work
nothing_done n c same =
    let cleared = uncleared n in
    let undone = no_undo n (is_cleared n n) in
    let applied : n - n ≡ 0 = omega arith in
    let writes : sum_by mention_count (undone_of c n) + 0 ≡ 0 =
    ap (λ (ds : List DepositValue). sum_by mention_count ds + 0) (nothing_undone c n same) in
    λ i. record { cleared = cleared i; undone = undone i; applied = applied i; writes = writes i }

-- to stay at a chain costs nothing
pub no_move : (steps : List Step) (c : List DepositValue)
    → length c ≡ length steps → cost c steps steps [] ≡ no_work
no_move steps c same =
    ap (λ (f : ℕ). work_of (length steps) f (length steps - f)
    (sum_by mention_count (undone_of c f) + 0)) (front_of_same steps)
    ∙ nothing_done (length steps) c same
