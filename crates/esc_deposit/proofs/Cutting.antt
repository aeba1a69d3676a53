-- Sizes of objects, and the runs that are cut so far.
use Rattle.std.proofs.Common.{◌≡◌, ℕ, ◌+◌, ◌-◌, ◌^◌, ◌<◌, ◌≤◌, min, ◌⊎◌, inl, inr, List, [], ◌∷◌, ◌++◌, take}
use Rattle.std.proofs.Common.{length, get_or, Some, refl, sym, ap, subst, ◌∙◌, arith, append_assoc, append-nil}
use Rattle.std.proofs.Common.{length-append}
use Rattle.std.specs.List.{All, sum_by, slice_get}
use Rattle.std.proofs.lemmas.List.{map-append}
use Rattle.std.proofs.lemmas.List.Concat.{flat_map-append}
use Rattle.std.proofs.lemmas.List.Elements.{All-nil, All-pop, All-push}
use Rattle.std.proofs.lemmas.List.Sums.{sum_by_more, sum_by-cons, sum_by_push}
use Rattle.std.proofs.lemmas.Option.{slice_get_within, get_or_from_slice_get}
use Rattle.esc_tables.specs.declared.survey.TheConstants.{MOST_ROWS}
use Rattle.esc_apply.specs.ObjectStreams.{Entry}
use Rattle.esc_apply.specs.Registry.{saturated}
use Rattle.esc_deposit.specs.declared.cut.Size.{Size}
use Rattle.esc_deposit.specs.declared.cut.TheConstants.{MOST_ROW_BYTES}
use Rattle.esc_deposit.specs.RegistrySeries.{run_objects}
use Rattle.esc_deposit.specs.Cuts.{object_row_count, object_bound, run_rows, run_bound, FitsBundle, IsRun, AreFull}
use Rattle.esc_deposit.specs.Cuts.{AreCutInto}
use Rattle.esc_deposit.specs.CutSoFar.{IsCutSoFar}

-- one more element in a sum that stays at its greatest number
pub added_at : {X : Type 0} (f : X → ℕ) (xs : List X) (at : ℕ) (x : X) (base old new : ℕ) → slice_get xs at ≡ Some x
    → old ≡ saturated (base + sum_by f (take at xs)) → new ≡ saturated (old + saturated (f x))
    → new ≡ saturated (base + sum_by f (take (at + 1) xs))
added_at f xs at x base old new is before after =
    let within : at < length xs = slice_get_within xs at x is in
    let more = sum_by_more f xs at x within in
    let same : f (get_or xs at x) ≡ f x = ap f (get_or_from_slice_get xs at x x is) in
    omega (arith, more, same, before, after)

-- ---- runs

-- the objects of one more run
joined : (runs : List (List Entry)) (run : List Entry) → run_objects (runs ++ run ∷ []) ≡ run_objects runs ++ run
joined runs run =
    flat_map-append (λ (r : List Entry). r) runs (run ∷ [])
    ∙ ap (λ (l : List Entry). run_objects runs ++ l) (append-nil run)

-- each object has a row
rows_least : (run : List Entry) → length run ≤ run_rows run
rows_least [] = omega arith
rows_least (e ∷ run) = omega (arith, sum_by-cons (λ (x : Entry). object_row_count x.1) e run, rows_least run)

-- so a run has no more objects than a bundle has rows
few : (run : List Entry) → IsRun run → length run ≤ MOST_ROWS
few run is = elim is.fits [
  | inl fits ↦ omega (arith, rows_least run, fits.rows)
  | inr one ↦ omega (arith, one)
]

-- the first object of a run stays
first_stays : (run : List Entry) (e : Entry) → 0 < length run → take 1 (run ++ e ∷ []) ≡ take 1 run
first_stays [] e some = absurd (omega (arith, some))
first_stays (x ∷ run) e some = refl

-- the runs stay full where the last one grows
full_grown : (runs : List (List Entry)) (run : List Entry) (e : Entry) → 0 < length run → AreFull (runs ++ run ∷ [])
    → AreFull (runs ++ (run ++ e ∷ []) ∷ [])
full_grown [] run e some full = tt
full_grown (r ∷ []) run e some full =
    (subst (λ (l : List Entry). FitsBundle (r ++ l) → ⊥) (sym (first_stays run e some)) full.0, tt)
full_grown (r ∷ s ∷ runs) run e some full = (full.0, full_grown (s ∷ runs) run e some full.1)

-- and where a new one begins with an object that the last one could not take
full_begun : (runs : List (List Entry)) (run : List Entry) (e : Entry) → AreFull (runs ++ run ∷ [])
    → (FitsBundle (run ++ e ∷ []) → ⊥) → AreFull ((runs ++ run ∷ []) ++ (e ∷ []) ∷ [])
full_begun [] run e full over = (over, tt)
full_begun (r ∷ []) run e full over = (full.0, (over, tt))
full_begun (r ∷ s ∷ runs) run e full over = (full.0, full_begun (s ∷ runs) run e full.1 over)

-- there are no objects yet, or the runs are such
abbrev Taken : List (List Entry) → List Entry → Type 0
Taken runs run = ((runs ≡ []) × (run ≡ [])) ⊎ All IsRun (runs ++ run ∷ [])

-- the last of them is one
last_run : (runs : List (List Entry)) (run : List Entry) → All IsRun (runs ++ run ∷ []) → All IsRun runs × IsRun run
last_run runs run all = All-pop IsRun (runs ++ run ∷ []) runs (Some run) refl all

-- and it is short
last_short : (runs : List (List Entry)) (run : List Entry) → Taken runs run → length run ≤ MOST_ROWS
last_short runs run (inl none) = omega (arith, ap (λ (r : List Entry). length r) none.1)
last_short runs run (inr all) = few run (last_run runs run all).1

-- one object is a run
alone : (e : Entry) → IsRun (e ∷ [])
alone e = record { some = omega arith; fits = inr refl }

-- each is still one where the last one takes an object
taken_grown : (runs : List (List Entry)) (run : List Entry) (e : Entry) → Taken runs run
    → (length run ≡ 0) ⊎ FitsBundle (run ++ e ∷ []) → All IsRun (runs ++ (run ++ e ∷ []) ∷ [])
taken_grown runs run e (inl none) room =
    subst (λ (rs : List (List Entry)). All IsRun (rs ++ (run ++ e ∷ []) ∷ [])) (sym none.0)
    (subst (λ (r : List Entry). All IsRun ((r ++ e ∷ []) ∷ [])) (sym none.1)
    (All-push IsRun [] (e ∷ []) (All-nil IsRun) (alone e)))
taken_grown runs run e (inr all) room =
    let both = last_run runs run all in
    All-push IsRun runs (run ++ e ∷ []) both.0 (record {
      some = omega (arith, length-append run (e ∷ []));
      fits = elim room [
        | inl none ↦ absurd (omega (arith, both.1.some, none))
        | inr fits ↦ inl fits
      ];
    })

-- and they stay full
full_with : (runs : List (List Entry)) (run : List Entry) (e : Entry) → Taken runs run → AreFull (runs ++ run ∷ [])
    → AreFull (runs ++ (run ++ e ∷ []) ∷ [])
full_with runs run e (inl none) full =
    subst (λ (rs : List (List Entry)). AreFull (rs ++ (run ++ e ∷ []) ∷ [])) (sym none.0) tt
full_with runs run e (inr all) full = full_grown runs run e (last_run runs run all).1.some full

-- each is still one where an object begins a run
taken_begun : (runs : List (List Entry)) (run : List Entry) (e : Entry) → Taken runs run → (length run ≡ 0 → ⊥)
    → All IsRun ((runs ++ run ∷ []) ++ (e ∷ []) ∷ [])
taken_begun runs run e (inl none) some = absurd (some (ap (λ (r : List Entry). length r) none.1))
taken_begun runs run e (inr all) some = All-push IsRun (runs ++ run ∷ []) (e ∷ []) all (alone e)

-- ---- one more object

module _ (e : Entry) (one : Size) (own_rows : one.rows ≡ saturated (object_row_count e.1))
    (own_bytes : one.bytes ≡ saturated (object_bound e.1)) where
  -- the rows of a run with the object
  more_rows : (run : List Entry) (size next : Size) → size.rows ≡ saturated (run_rows run)
      → next.rows ≡ saturated (size.rows + one.rows) → next.rows ≡ saturated (run_rows (run ++ e ∷ []))
  more_rows run size next was is =
      omega (arith, sum_by_push (λ (x : Entry). object_row_count x.1) run e, was, is, own_rows)

  -- and the bytes
  more_bytes : (run : List Entry) (size next : Size) → size.bytes ≡ saturated (run_bound run)
      → next.bytes ≡ saturated (size.bytes + one.bytes) → next.bytes ≡ saturated (run_bound (run ++ e ∷ []))
  more_bytes run size next was is =
      omega (arith, sum_by_push (λ (x : Entry). object_bound x.1) run e, was, is, own_bytes)

  module _ (es : List Entry) (lengths : List ℕ) (n : ℕ) (size next : Size) (far : IsCutSoFar es lengths n size)
      (rows : next.rows ≡ saturated (size.rows + one.rows))
      (bytes : next.bytes ≡ saturated (size.bytes + one.bytes)) where
    -- the size of the last run with the object
    new_rows : next.rows ≡ saturated (run_rows (far.run ++ e ∷ []))
    new_rows = more_rows far.run size next far.rows rows

    new_bytes : next.bytes ≡ saturated (run_bound (far.run ++ e ∷ []))
    new_bytes = more_bytes far.run size next far.bytes bytes

    -- the last run could take it
    room : (next.rows ≤ MOST_ROWS) × (next.bytes ≤ MOST_ROW_BYTES) → FitsBundle (far.run ++ e ∷ [])
    room within = record {
      rows = omega (arith, within.0, new_rows);
      bytes = omega (arith, within.1, new_bytes);
    }

    -- where it can
    within_of : FitsBundle (far.run ++ e ∷ []) → (next.rows ≤ MOST_ROWS) × (next.bytes ≤ MOST_ROW_BYTES)
    within_of fits = (omega (arith, fits.rows, new_rows), omega (arith, fits.bytes, new_bytes))

    -- the object is in the last run
    pub to_last : (m : ℕ) → m ≡ min (n + 1) (2 ^ 64 - 1)
        → (n ≡ 0) ⊎ ((next.rows ≤ MOST_ROWS) × (next.bytes ≤ MOST_ROW_BYTES))
        → IsCutSoFar (es ++ e ∷ []) lengths m next
    to_last m is may =
        let short = last_short far.runs far.run far.taken in
        let fits : (length far.run ≡ 0) ⊎ FitsBundle (far.run ++ e ∷ []) = elim may [
          | inl none ↦ inl (far.long ∙ none)
          | inr within ↦ inr (room within)
        ] in
        record {
          runs = far.runs;
          run = far.run ++ e ∷ [];
          whole = joined far.runs (far.run ++ e ∷ []) ∙ sym (append_assoc (run_objects far.runs) far.run (e ∷ []))
              ∙ ap (λ (l : List Entry). l ++ e ∷ []) (sym (joined far.runs far.run) ∙ far.whole);
          each = far.each;
          long = omega (arith, length-append far.run (e ∷ []), far.long, is, short);
          rows = new_rows;
          bytes = new_bytes;
          taken = inr (taken_grown far.runs far.run e far.taken fits);
          full = full_with far.runs far.run e far.taken far.full;
        }

    -- it begins a run
    pub to_next : (n ≡ 0 → ⊥) → ((next.rows ≤ MOST_ROWS) × (next.bytes ≤ MOST_ROW_BYTES) → ⊥)
        → IsCutSoFar (es ++ e ∷ []) (lengths ++ n ∷ []) 1 one
    to_next some over = record {
      runs = far.runs ++ far.run ∷ [];
      run = e ∷ [];
      whole = joined (far.runs ++ far.run ∷ []) (e ∷ []) ∙ ap (λ (l : List Entry). l ++ e ∷ []) far.whole;
      each = map-append length far.runs (far.run ∷ []) ∙ ap (λ (l : List ℕ). l ++ length far.run ∷ []) far.each
          ∙ ap (λ (k : ℕ). lengths ++ k ∷ []) far.long;
      long = omega arith;
      rows = omega (arith, sum_by-cons (λ (x : Entry). object_row_count x.1) e [], own_rows);
      bytes = omega (arith, sum_by-cons (λ (x : Entry). object_bound x.1) e [], own_bytes);
      taken = inr (taken_begun far.runs far.run e far.taken (λ none. some (sym far.long ∙ none)));
      full = full_begun far.runs far.run e far.full (λ fits. over (within_of fits));
    }

-- ---- the first and the last

-- nothing is cut of no objects
pub none_so_far : (lengths : List ℕ) → lengths ≡ [] → IsCutSoFar [] lengths 0 (record { rows = 0; bytes = 0 })
none_so_far lengths is = record {
  runs = [];
  run = [];
  whole = refl;
  each = sym is;
  long = refl;
  rows = omega arith;
  bytes = omega arith;
  taken = inl (refl, refl);
  full = tt;
}

-- of no objects there is one run
all_taken : (runs : List (List Entry)) (run : List Entry) → Taken runs run
    → (runs ++ run ∷ [] ≡ [] ∷ []) ⊎ All IsRun (runs ++ run ∷ [])
all_taken runs run (inl none) = inl (ap (λ (rs : List (List Entry)). rs ++ run ∷ []) none.0
    ∙ ap (λ (r : List Entry). r ∷ []) none.1)
all_taken runs run (inr all) = inr all

-- the last run is one of them
pub all_cut : (es : List Entry) (lengths : List ℕ) (n : ℕ) (size : Size) → IsCutSoFar es lengths n size
    → AreCutInto es (lengths ++ n ∷ [])
all_cut es lengths n size far = record {
  runs = far.runs ++ far.run ∷ [];
  whole = far.whole;
  each = map-append length far.runs (far.run ∷ []) ∙ ap (λ (l : List ℕ). l ++ length far.run ∷ []) far.each
      ∙ ap (λ (k : ℕ). lengths ++ k ∷ []) far.long;
  some = omega (arith, length-append far.runs (far.run ∷ []));
  taken = all_taken far.runs far.run far.taken;
  full = far.full;
}
