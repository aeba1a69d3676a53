-- The common front of two chains of one manifest is their common beginning of rows.
use Rattle.std.proofs.Common.{◌≡◌, ℕ, suc, ◌+◌, ◌<◌, Bool, true, false, cond, ◌&&◌, ◌==◌}
use Rattle.std.proofs.Common.{List, [], ◌∷◌, length, map, take, refl, ap₂, subst, arith}
use Rattle.std.specs.List.{AllByRecursion, prefix_len, zip}
use Rattle.std.specs.Ordering.{int_eq}
use Rattle.std.proofs.lemmas.Bool.Decides.{nat_tests, Decides-int_eq}
use Rattle.std.proofs.lemmas.Bool.{and_parts, eqb-true}
use Rattle.esc_envelope.specs.Place.{rank}
use Rattle.esc_envelope.specs.PlaceLaws.{one_type}
use Rattle.esc_manifest.specs.declared.row.MRow.{MRow}
use Rattle.esc_manifest.specs.ManifestRows.{place_at, resend_at}
use Rattle.esc_manifest.specs.Accepted.{IsAccepted}
use Rattle.esc_apply.specs.declared.front.Step.{Step}
use Rattle.esc_apply.specs.Front.{same_step, common_front}
use Rattle.esc_store.specs.StoreState.{step_at}

-- these rows are the manifest's
abbrev pub AreOf : List MRow → List ℕ → Type 0
AreOf m rows = AllByRecursion (λ r. r < length m) rows

-- the lists begin with the same rows, as many as the first k of these pairs are
abbrev BeginAlike : ℕ → List (Step × Step) → List ℕ → List ℕ → Type 0
BeginAlike k pairs old new = take (length (take k pairs)) old ≡ take (length (take k pairs)) new

more_front : (k : ℕ) (x : Step × Step) (pairs : List (Step × Step)) (q r : ℕ) (old new : List ℕ) → q ≡ r
    → BeginAlike k pairs old new → BeginAlike (1 + k) (x ∷ pairs) (q ∷ old) (r ∷ new)
more_front k x pairs q r old new same rest =
    let next : suc k ≡ 1 + k = omega arith in
    subst (λ (n : ℕ). BeginAlike n (x ∷ pairs) (q ∷ old) (r ∷ new))
    next (ap₂ (λ (y : ℕ) (ys : List ℕ). y ∷ ys) same rest)

module _ (m : List MRow) (accepted : IsAccepted m) where
  -- equal steps are of one row
  one_row : (q r : ℕ) → q < length m → r < length m → same_step (step_at m q, step_at m r) ≡ true → q ≡ r
  one_row q r q_in r_in same =
      let watermarks = int_eq (place_at m q).watermark (place_at m r).watermark in
      let kinds = rank (place_at m q).kind == rank (place_at m r).kind in
      let resends = resend_at m q == resend_at m r in
      let ends = and_parts (watermarks && kinds) resends same in
      let marks = and_parts watermarks kinds ends.0 in
      let watermark : (place_at m q).watermark ≡ (place_at m r).watermark =
      (Decides-int_eq (place_at m q).watermark (place_at m r).watermark).0 marks.0 in
      let kind : (place_at m q).kind ≡ (place_at m r).kind =
      one_type (place_at m q).kind (place_at m r).kind (eqb-true _ _ marks.1) in
      let resend : resend_at m q ≡ resend_at m r = grind (arith, nat_tests, ends.1) in
      accepted.one_revision q r q_in r_in (λ i. record { watermark = watermark i; kind = kind i }) resend

  -- below the common front the rows are the same
  pub same_front : (old new : List ℕ) → AreOf m old → AreOf m new
      → take (common_front (map (step_at m) old) (map (step_at m) new)) old
      ≡ take (common_front (map (step_at m) old) (map (step_at m) new)) new
  same_front [] new old_in new_in = refl
  same_front (q ∷ old) [] old_in new_in = refl
  same_front (q ∷ old) (r ∷ new) old_in new_in =
      by_test (same_step here) refl (same_front old new old_in.1 new_in.1)
    where
      here : Step × Step
      here = (step_at m q, step_at m r)

      pairs : List (Step × Step)
      pairs = zip (map (step_at m) old) (map (step_at m) new)

      count : ℕ
      count = prefix_len same_step pairs

      by_test : (b : Bool) → same_step here ≡ b → BeginAlike count pairs old new
          → BeginAlike (cond b (1 + count) 0) (here ∷ pairs) (q ∷ old) (r ∷ new)
      by_test true is rest = more_front count here pairs q r old new (one_row q r old_in.0 new_in.0 is) rest
      by_test false other rest = refl
