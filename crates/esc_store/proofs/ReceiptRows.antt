-- What receipts say: of which rows the deposits are held, and of which bodies no row was listed.
use Rattle.esc_store.proofs.Common.{◌≡◌, ◌↔◌, ◌⊎◌, inl, inr, ℕ, suc, ◌<◌, ◌==◌, true}
use Rattle.esc_store.proofs.Common.{List, [], ◌∷◌, ◌++◌, length, map, filter, Some, refl, sym, ap}
use Rattle.esc_store.proofs.Common.{subst, ◌∙◌, arith, eqb, true≢false, same_Some, IsSorted, Contains}
use Rattle.esc_store.proofs.Common.{Any, dedup}
use Rattle.esc_store.proofs.Common.{nat_cmp, cases_Bool, get_or-map, length-map, eqb-true, ReceiptRow}
use Rattle.esc_store.proofs.Common.{Content, ListsRows, verdict_digests, any_weaker, Verdict, A2}
use Rattle.esc_store.proofs.Common.{AreOnce, StoreState, ReceiptValue, verdict_number, receipts_from}
use Rattle.esc_store.proofs.Common.{IsBooks}
use Rattle.std.specs.Prelude.{IsPermutation}
use Rattle.std.specs.List.{AllPairs}
use Rattle.std.proofs.lemmas.List.Elements.{All-from_get_or, filter_map-append, Contains-append_left}
use Rattle.std.proofs.lemmas.List.Elements.{Contains-append_right, Contains-append_cases}
use Rattle.std.proofs.lemmas.List.Kept.{AllPairs-from_increasing, Contains-dedup_nat, Contains-from_dedup}
use Rattle.std.proofs.lemmas.List.Sorted.{IsPermutation-sym, Contains-permutation}
use Rattle.std.proofs.lemmas.Map.Keys.{IsStrictlyIncreasing-dedup}
use Rattle.std.proofs.lemmas.Bool.{eq-eqb}
use Rattle.std.proofs.Common.{◌||◌, ◌+◌, cond, get_or, None, Option, take, filter_map}
use Rattle.std.proofs.lemmas.List.{take_more}
use Rattle.std.specs.List.{cons_option}
use Rattle.std.proofs.lemmas.Option.{none-some}
use Rattle.esc_sql.specs.Changes.{is_of_verdict}
use Rattle.esc_store.specs.declared.reply.Verdict.TheVariants.{A1, A5}
use Rattle.esc_store.specs.Decoded.{IsOfVerdict, AreOfVerdict, row_if_held, digest_if_unlisted}
use Rattle.esc_store.specs.StoreState.{IsRising, SaysHeld, AreHeldBy, is_unlisted, TellsUnlisted, AreUnlisted}
use Rattle.esc_store.specs.TypedRows.{numbered_receipt}
use Rattle.esc_store.specs.ListLaws.{first_or_later, later, any_first, any_later, any_split}

-- ---- each once

rising : (xs : List ℕ) → AllPairs (λ x y. x < y) xs → IsRising xs
rising [] pairs = tt
rising (x ∷ xs) pairs = (
  All-from_get_or (λ y. x < y)
      xs 0 (λ k within. pairs 0 (suc k) 0 (omega arith) (omega (arith, within))),
  rising
      xs (λ i j d below within. pairs (suc i) (suc j) d (omega (arith, below)) (omega (arith, within))),
)

-- sorted numbers without repeats have each once
pub are_once : (numbers : List ℕ) → IsSorted nat_cmp numbers → AreOnce numbers (dedup eqb numbers)
are_once numbers up = record {
  rising = rising (dedup eqb numbers)
      (AllPairs-from_increasing (dedup eqb numbers) (IsStrictlyIncreasing-dedup numbers up));
  each = λ n. (Contains-from_dedup eqb numbers n, Contains-dedup_nat numbers n);
}

-- ---- elements of lists

some_there : (xs : List ℕ) (n : ℕ) → Contains xs n → Contains (map (λ x. Some x) xs) (Some n)
some_there xs n (k, within, is) = (
  k,
  omega (arith, within, length-map xs (λ (x : ℕ). Some x)),
  get_or-map (λ x. Some x) xs k n (Some n) within ∙ ap (λ x. Some x) is,
)

some_back : (xs : List ℕ) (n : ℕ) → Contains (map (λ x. Some x) xs) (Some n) → Contains xs n
some_back xs n (k, within, is) =
    let inside : k < length xs = omega (arith, within, length-map xs (λ (x : ℕ). Some x)) in
    (k, inside, same_Some _ _ (sym (get_or-map (λ x. Some x) xs k n (Some n) inside) ∙ is))

-- ---- the receipts of a verdict, by what a column of their rows says

module _ {Y : Type 0} (column : ReceiptRow → Y)
    (v : ℕ) (y : Y) (P : ReceiptValue → Type 0) (reads : (n : ℕ) (r : ReceiptValue)
    → ((verdict_number r.verdict ≡ v) × (column (numbered_receipt n r) ≡ y)) ↔ P r) where
  pub said : (n : ℕ) (rs : List ReceiptValue)
      → Contains (map column (filter (is_of_verdict v) (receipts_from n rs))) y ↔ Any P rs
  said n [] = (λ there. absurd (omega (arith, there.1)), λ any. absurd (omega (arith, any.2)))
  said n (r ∷ rs) = elim (cases_Bool (verdict_number r.verdict == v)) [
    | inl is ↦ rw is (
      λ there. elim (first_or_later _ y _ there) [
        | inl here ↦ any_first P r rs ((reads n r).0
            (eqb-true _ v is, here))
        | inr behind ↦ any_later P r rs ((said (suc n) rs).0 behind)
      ],
      λ any. elim (any_split P r rs any) [
        | inl p ↦ (0, omega arith, ((reads n r).1 p).1)
        | inr there ↦ later _ y _ ((said (suc n) rs).1 there)
      ],
    )
    | inr other ↦ rw other (
      λ there. any_later P r rs ((said (suc n) rs).0 there),
      λ any. elim (any_split P r rs any) [
        | inl p ↦ absurd (true≢false
            (sym (eq-eqb _ v ((reads n r).1 p).0) ∙ other))
        | inr there ↦ (said (suc n) rs).1 there
      ],
    )
  ]

-- ---- the receipts of the verdict A1

is_a1 : (v : Verdict) → verdict_number v ≡ 1 → v ≡ A1
is_a1 A1 is = refl
is_a1 _ is = absurd (omega (arith, is))

-- the rows that receipts name, each once
pub are_held_by : (k : StoreState) (c : Content) (numbers rows : List ℕ)
    → IsBooks c k → ListsRows 1 c numbers → AreOnce numbers rows → AreHeldBy k.receipts rows
are_held_by k c numbers rows books lists once = record { rising = once.rising; each = each } where
  each : (row : ℕ) → Contains rows row ↔ Any (SaysHeld row) k.receipts
  each row =
      let same = subst (λ rs. IsPermutation (map (λ (r : ReceiptRow). r.row)
      (filter (is_of_verdict 1) rs)) (map (λ n. Some n) numbers)) books.receipts lists.same in
      let (told, named) = said (λ r. r.row) 1 (Some row) (SaysHeld row) (λ n r.
      (λ it. (is_a1 r.verdict it.0, it.1), λ it. (ap verdict_number it.0, it.1))) 1 k.receipts in (
        λ there. told (Contains-permutation _ _ _ (IsPermutation-sym _ _ same)
            (some_there numbers row ((once.each row).0 there))),
        λ any. (once.each row).1
            (some_back numbers row (Contains-permutation _ _ _ same (named any))),
      )

-- ---- the digests of the receipts of a verdict, and of bodies that no row listed

-- of one verdict
pub are_of_verdict : (v : ℕ) (k : StoreState) (c : Content) (digests : List (List ℕ))
    → IsBooks c k → digests ≡ verdict_digests v c.receipts → AreOfVerdict v k.receipts digests
are_of_verdict v k c digests books is d = subst (λ ds. Contains ds d ↔ Any (IsOfVerdict v d) k.receipts)
    (sym (is ∙ ap (verdict_digests v) books.receipts))
    (said (λ r. r.digest) v d (IsOfVerdict v d) (λ n r. (λ it. it, λ it. it)) 1 k.receipts)

is_told : (w : Verdict) → (is_unlisted w ≡ true) ↔ ((verdict_number w ≡ 2) ⊎ (verdict_number w ≡ 5))
is_told A2 = (λ _. inl refl, λ _. refl)
is_told A5 = (λ _. inr refl, λ _. refl)
is_told _ = (
  λ is. absurd (true≢false (sym is)),
  λ is. absurd (elim is [ inl two ↦ omega (arith, two) | inr five ↦ omega (arith, five) ]),
)

-- of both
pub are_unlisted : (rs : List ReceiptValue) (firsts seconds digests : List (List ℕ)) → AreOfVerdict
    2 rs firsts → AreOfVerdict 5 rs seconds → digests ≡ firsts ++ seconds → AreUnlisted rs digests
are_unlisted rs firsts seconds digests first second is d =
    subst (λ ds. Contains ds d ↔ Any (TellsUnlisted d) rs) (sym is) (
      λ there. elim (Contains-append_cases firsts seconds d there) [
        | inl one ↦ any_weaker (IsOfVerdict 2 d)
            (TellsUnlisted d) (λ r it. ((is_told r.verdict).1 (inl it.0), it.1)) rs ((first d).0 one)
        | inr other ↦ any_weaker (IsOfVerdict 5 d)
            (TellsUnlisted d) (λ r it. ((is_told r.verdict).1 (inr it.0), it.1)) rs ((second d).0 other)
      ],
      λ any. elim ((is_told any.1.verdict).0 any.4.0) [
        | inl two ↦ Contains-append_left firsts seconds d ((first d).1 (any.0, any.1, any.2, any.3, (two, any.4.1)))
        | inr five ↦ Contains-append_right firsts seconds d ((second d).1 (any.0, any.1, any.2, any.3, (five, any.4.1)))
      ],
    )

-- ---- the same, picked of all receipts one by one

module _ {Y : Type 0} (pick : ReceiptRow → Option Y) (y : Y) (P : ReceiptValue → Type 0)
    (reads : (n : ℕ) (r : ReceiptValue) → (pick (numbered_receipt n r) ≡ Some y) ↔ P r) where
  -- of one receipt and later ones, by what is picked of the first
  picked_from : (n : ℕ) (r : ReceiptValue) (rs : List ReceiptValue)
      → Contains (filter_map pick (receipts_from (suc n) rs)) y
      ↔ Any P rs → (o : Option Y) → pick (numbered_receipt n r) ≡ o
      → Contains (filter_map pick (receipts_from n (r ∷ rs))) y ↔ Any P (r ∷ rs)
  picked_from n r rs more None is = rw is (
    λ there. any_later P r rs (more.0 there),
    λ any. elim (any_split P r rs any)
        [ inl p ↦ absurd (none-some _ (sym is ∙ (reads n r).1 p)) | inr there ↦ more.1 there ],
  )
  picked_from n r rs more (Some z) is = rw is (
    λ there. elim (first_or_later z y _ there) [
      | inl here ↦ any_first P r rs
          ((reads n r).0 (is ∙ ap (λ x. Some x) here))
      | inr behind ↦ any_later P r rs (more.0 behind)
    ],
    λ any. elim (any_split P r rs any) [
      | inl p ↦ (
        0,
        omega arith,
        same_Some _ _ (sym is ∙ (reads n r).1 p),
      )
      | inr there ↦ later z y _ (more.1 there)
    ],
  )

  picked : (n : ℕ) (rs : List ReceiptValue) → Contains (filter_map pick (receipts_from n rs)) y ↔ Any P rs
  picked n [] = (λ there. absurd (omega (arith, there.1)), λ any. absurd (omega (arith, any.2)))
  picked n (r ∷ rs) = picked_from n r rs (picked (suc n) rs) (pick (numbered_receipt n r)) refl

row_of_a1 : (v : Verdict) (row : ℕ) (told : Option ℕ)
    → (cond (verdict_number v == 1) told None ≡ Some row) ↔ ((v ≡ A1) × (told ≡ Some row))
row_of_a1 A1 row told = (λ is. (refl, is), λ it. it.1)
row_of_a1 _ row told = (λ is. absurd (none-some _ is), λ it. absurd (omega (arith, ap verdict_number it.0)))

digest_of_told : (v : Verdict) (d digest : List ℕ)
    → (cond ((verdict_number v == 2) || (verdict_number v == 5)) (Some digest) None ≡ Some d)
    ↔ ((is_unlisted v ≡ true) × (digest ≡ d))
digest_of_told A2 d digest = (λ is. (refl, same_Some _ _ is), λ it. ap (λ x. Some x) it.1)
digest_of_told A5 d digest = (λ is. (refl, same_Some _ _ is), λ it. ap (λ x. Some x) it.1)
digest_of_told _ d digest = (λ is. absurd (none-some _ is), λ it. absurd (true≢false (sym it.0)))

-- what is picked of values is picked of what they stand for
pub picked_of : {A B Y : Type 0} (read : A → B) (pick : B → Option Y) (xs : List A)
    → filter_map (λ x. pick (read x)) xs ≡ filter_map pick (map read xs)
picked_of read pick [] = refl
picked_of read pick (x ∷ xs) = ap (cons_option (pick (read x))) (picked_of read pick xs)

-- what is picked of one value more
pub picked_more : {A Y : Type 0} (pick : A → Option Y) (xs : List A) (i : ℕ) (x d : A)
    → i < length xs → x ≡ get_or xs i d
    → filter_map pick (take (i + 1) xs) ≡ filter_map pick (take i xs) ++ filter_map pick (x ∷ [])
picked_more pick xs i x d within is = ap (filter_map pick) (take_more xs i d within
    ∙ ap (λ y. take i xs ++ y ∷ []) (sym is)) ∙ filter_map-append pick (take i xs) (x ∷ [])

-- the rows that receipts say are held, in ascending order
pub picked_rows : (rs : List ReceiptValue) (sorted rows : List ℕ) → IsPermutation
    (filter_map row_if_held (receipts_from 1 rs)) sorted → AreOnce sorted rows → AreHeldBy rs rows
picked_rows rs sorted rows same once = record {
  rising = once.rising;
  each = λ row.
      let (told, named) = picked row_if_held row (SaysHeld row) (λ n r. row_of_a1 r.verdict row r.row) 1 rs in (
        λ there. told (Contains-permutation _ _ _ (IsPermutation-sym _ _ same) ((once.each row).0
            there)),
        λ any. (once.each row).1 (Contains-permutation _ _ _ same (named any)),
      );
}

-- the digests of bodies that no row listed
pub picked_digests : (rs : List ReceiptValue) → AreUnlisted rs (filter_map digest_if_unlisted (receipts_from 1 rs))
picked_digests rs d = picked digest_if_unlisted d (TellsUnlisted d) (λ n r. digest_of_told r.verdict d r.digest) 1 rs
