-- The latest chain with one more row at its end.
use Rattle.std.proofs.Common.{◌≡◌, ◌⊎◌, inl, inr, ℕ, ℤ, ◌+◌, ◌-◌, ◌<◌, IsTrue, List, []}
use Rattle.std.proofs.Common.{◌∷◌, ◌++◌, length, map, take, Option, Some, None, option_map, refl, sym}
use Rattle.std.proofs.Common.{ap, subst, ◌∙◌, append_assoc, arith}
use Rattle.std.specs.List.{Contains}
use Rattle.std.specs.FinSet as set
use Rattle.std.proofs.lemmas.List.{map-append, take_all, take_more}
use Rattle.std.proofs.lemmas.Option.{get_or_from_slice_get, none-some, same_Some, slice_get_within}
use Rattle.esc_manifest.specs.declared.row.MRow.{MRow}
use Rattle.esc_manifest.specs.ManifestRows.{place_at}
use Rattle.esc_manifest.specs.Accepted.{IsAccepted}
use Rattle.esc_chain.specs.Chain.{Rows, IsHeld, IsLatestChainAt}
use Rattle.esc_chain.specs.AtEnd.{HasOneMore}
use Rattle.esc_apply.specs.declared.front.Step.{Step}
use Rattle.esc_store.specs.StoreState.{AreHeld, step_at}
use Rattle.esc_events.specs.Plans.{AreLatestSteps, rows_in_steps}
use Rattle.esc_events.specs.StateAfter.{HaveBodies}
use Rattle.esc_store.specs.Holding.{IsInserted}
use Rattle.esc_desk.specs.Lengthening.{IsChainWithout, Lengthens}
use Rattle.esc_desk.specs.Reads.{last}
use Rattle.esc_desk.proofs.Moving.{rows_of_steps}
use Rattle.esc_desk.proofs.ReadLemmas.{last_mapped}

-- a list that has a last element ends with it
split_last : (rows : List ℕ) (s : ℕ) → last rows ≡ Some s → (front : List ℕ) × (rows ≡ front ++ s ∷ [])
split_last rows s is =
    let i = length rows - 1 in
    let within : i < length rows = slice_get_within rows i s is in
    let whole : take (i + 1) rows ≡ rows = take_all (i + 1) rows (omega (arith, within)) in
    let here = ap (λ (x : ℕ). take i rows ++ x ∷ []) (get_or_from_slice_get rows i s 0 is) in
    (take i rows, sym whole ∙ take_more rows i 0 within ∙ here)

module _ (m : List MRow)
    (rows : List ℕ) (t : Option ℤ) (r : ℕ) (steps more : List Step) (goes : Lengthens m rows t r steps)
    (before : IsChainWithout m rows t r steps)
    (accepted : IsAccepted m) (are : more ≡ steps ++ step_at m r ∷ []) where
  abbrev longer : List ℕ
  longer = before.chain ++ r ∷ []

  made : more ≡ map (step_at m) longer
  made = are ∙ ap (λ (l : List Step). l ++ step_at m r ∷ []) before.are_steps
      ∙ sym (map-append (step_at m) before.chain (r ∷ []))

  rows_are : rows_in_steps more ≡ longer
  rows_are = ap rows_in_steps made ∙ rows_of_steps m longer

  is_latest : IsLatestChainAt m (set.from_list rows) t longer
  is_latest = by_end (last before.chain) refl (sym (last_mapped (step_at m) before.chain)
      ∙ ap (λ (l : List Step). last l) (sym before.are_steps) ∙ goes.last_is)
    where
      by_end : (o : Option ℕ) → last before.chain ≡ o
          → option_map (step_at m) o ≡ Some goes.end → IsLatestChainAt m (set.from_list rows) t longer
      by_end None is end = absurd (none-some _ end)
      by_end (Some s) is end =
          let (front, split) = split_last before.chain s is in
          let place : place_at m s ≡ goes.end.place = ap (λ (x : Step). x.place) (same_Some _ _ end) in
          let old = subst (IsLatestChainAt m before.others t) split before.latest in
          let whole = ap (λ (l : List ℕ). l ++ r ∷ []) split ∙ append_assoc front (s ∷ []) (r ∷ []) in
          subst (IsLatestChainAt m (set.from_list rows) t)
          (sym whole) (goes.lengthens before.others front s before.one_more place old)

  pub latest_with : AreLatestSteps m rows t more
  latest_with = record {
    are_steps = made ∙ ap (map (step_at m)) (sym rows_are);
    accepted = accepted;
    in_range = goes.in_range;
    latest = subst (IsLatestChainAt m (set.from_list rows) t) (sym rows_are) is_latest;
  }

-- the rows of the bodies that are held, and one more
pub one_more_held : (bodies : ℕ → Option (List ℕ)) (row : ℕ) (held more : List ℕ) (h : Rows)
    → HaveBodies bodies h → AreHeld bodies held → IsInserted held row more → HasOneMore h more row
one_more_held bodies row held more h have are inserted q =
    (λ there. to ((inserted.each q).0 there), λ either. (inserted.each q).1 (back either))
  where
    to : (q ≡ row) ⊎ Contains held q → IsHeld h q ⊎ (q ≡ row)
    to (inl is) = inr is
    to (inr there) = inl (subst IsTrue (sym (have q)) ((are.each q).0 there))

    back : IsHeld h q ⊎ (q ≡ row) → (q ≡ row) ⊎ Contains held q
    back (inl old) = inr ((are.each q).1 (subst IsTrue (have q) old))
    back (inr is) = inl is
