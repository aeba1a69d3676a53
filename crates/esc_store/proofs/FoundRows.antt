-- The rows that receipts and look-ups tell are those of which a body is held.
use Rattle.std.proofs.Common.{◌≡◌, ◌⊎◌, inl, inr, ℕ, List, [], ◌∷◌, ◌++◌, Some, IsSome, refl}
use Rattle.std.proofs.Common.{sym, ap, subst, ◌∙◌, arith}
use Rattle.std.specs.List.{Contains, Any}
use Rattle.std.proofs.lemmas.List.Elements.{Contains-append_left, Contains-append_right, Contains-append_cases}
use Rattle.std.proofs.lemmas.Option.{same_Some}
use Rattle.esc_store.specs.StoreState.{StoreState, AreHeld, AreHeldBy, SaysHeld, AreUnlisted}
use Rattle.esc_store.specs.ListLaws.{first_or_later}
use Rattle.esc_manifest.specs.Listed.{row_with_digest}
use Rattle.esc_store.specs.Holding.{HasReceipts, TellsOf, IsInserted, IsOfDigests, AreFound}

-- ---- one digest more

-- a row is told to be held, or lists one of these digests and has a body
abbrev IsOneOf : StoreState → List ℕ → List (List ℕ) → ℕ → Type 0
IsOneOf k told digests r = Contains told r ⊎ (IsOfDigests k digests r × IsSome (k.bodies r))

module _ (k : StoreState) (told : List ℕ) where
  module _ (digests : List (List ℕ))
      (digest : List ℕ) (rows : List ℕ) (found : AreFound k told digests rows) where
    still : (r : ℕ) → IsOfDigests k digests r → IsOfDigests k (digests ++ digest ∷ []) r
    still r of = record {
      digest = of.digest;
      among = Contains-append_left digests (digest ∷ []) of.digest of.among;
      lists = of.lists;
    }

    -- it is of one of the digests, or of the last
    either : (r : ℕ) → IsOfDigests k (digests ++ digest ∷ []) r
        → IsOfDigests k digests r ⊎ (row_with_digest k.listed digest ≡ Some r)
    either r of = by_place (Contains-append_cases digests (digest ∷ []) of.digest of.among)
      where
        by_last : (digest ≡ of.digest) ⊎ Contains [] of.digest → row_with_digest k.listed digest ≡ Some r
        by_last (inl same) = ap (row_with_digest k.listed) same ∙ of.lists
        by_last (inr there) = absurd (omega (arith, there.1))

        by_place : Contains digests of.digest ⊎ Contains (digest ∷ []) of.digest
            → IsOfDigests k digests r ⊎ (row_with_digest k.listed digest ≡ Some r)
        by_place (inl there) = inl (record { digest = of.digest; among = there; lists = of.lists })
        by_place (inr last) = inr (by_last (first_or_later digest of.digest [] last))

    -- what was found is found still
    more : (r : ℕ) → IsOneOf k told digests r → IsOneOf k told (digests ++ digest ∷ []) r
    more r (inl there) = inl there
    more r (inr of) = inr (still r of.0, of.1)

    -- no row lists the digest, or none of which a body is held
    pub found_no_more : ((r : ℕ) → row_with_digest k.listed digest ≡ Some r → IsSome (k.bodies r) → ⊥)
        → AreFound k told (digests ++ digest ∷ []) rows
    found_no_more none = record {
      rising = found.rising;
      each = λ r. (λ there. more r ((found.each r).0 there), λ is. (found.each r).1 (back r is));
    }
      where
        back : (r : ℕ) → IsOneOf k told (digests ++ digest ∷ []) r → IsOneOf k told digests r
        back r (inl there) = inl there
        back r (inr of) = by_either (either r of.0)
          where
            by_either : IsOfDigests k digests r ⊎ (row_with_digest k.listed digest ≡ Some r)
                → IsOneOf k told digests r
            by_either (inl old) = inr (old, of.1)
            by_either (inr last) = absurd (none r last of.1)

    -- a row that was found lists the digest
    pub found_already : (row : ℕ) → row_with_digest k.listed digest ≡ Some row
        → Contains rows row → AreFound k told (digests ++ digest ∷ []) rows
    found_already row lists there = record {
      rising = found.rising;
      each = λ r. (λ in_rows. more r ((found.each r).0 in_rows), λ is. back r is);
    }
      where
        back : (r : ℕ) → IsOneOf k told (digests ++ digest ∷ []) r → Contains rows r
        back r (inl said) = (found.each r).1 (inl said)
        back r (inr of) = by_either (either r of.0)
          where
            by_either : IsOfDigests k digests r ⊎ (row_with_digest k.listed digest ≡ Some r) → Contains rows r
            by_either (inl old) = (found.each r).1 (inr (old, of.1))
            by_either (inr last) = subst (Contains rows) (same_Some _ _ (sym lists ∙ last)) there

    -- a row lists the digest, and a body is held of it
    pub found_one_more : (row : ℕ) (after : List ℕ)
        → row_with_digest k.listed digest ≡ Some row → IsSome (k.bodies row) → IsInserted rows row after
        → AreFound k told (digests ++ digest ∷ []) after
    found_one_more row after lists some put = record {
      rising = put.rising;
      each = λ r. (λ there. there_is r ((put.each r).0 there), λ is. (put.each r).1 (back r is));
    }
      where
        there_is : (r : ℕ) → (r ≡ row) ⊎ Contains rows r → IsOneOf k told (digests ++ digest ∷ []) r
        there_is r (inl is) = inr (
          record {
            digest = digest;
            among = Contains-append_right
                digests (digest ∷ []) digest (0, omega arith, refl);
            lists = lists ∙ ap Some (sym is);
          },
          subst (λ (q : ℕ). IsSome (k.bodies q)) (sym is) some,
        )
        there_is r (inr there) = more r ((found.each r).0 there)

        back : (r : ℕ) → IsOneOf k told (digests ++ digest ∷ []) r → (r ≡ row) ⊎ Contains rows r
        back r (inl there) = inr ((found.each r).1 (inl there))
        back r (inr of) = by_either (either r of.0)
          where
            by_either : IsOfDigests k digests r ⊎ (row_with_digest k.listed digest ≡ Some r)
                → (r ≡ row) ⊎ Contains rows r
            by_either (inl old) = inr ((found.each r).1 (inr (old, of.1)))
            by_either (inr last) = inl (same_Some _ _ (sym last ∙ lists))

-- ---- what is held

module _ (k : StoreState) (has : HasReceipts k) (digests : List (List ℕ)) (are : AreUnlisted k.receipts digests) where
  -- of each row that has a body a receipt tells
  held_by_any : (r : ℕ) → IsSome (k.bodies r) → Any (SaysHeld r) k.receipts ⊎ IsOfDigests k digests r
  held_by_any r some = by_told (has.held_told r some)
    where
      by_told : Any (TellsOf k.listed r) k.receipts → Any (SaysHeld r) k.receipts ⊎ IsOfDigests k digests r
      by_told (i, q, within, at, inl says) = inl (i, q, within, at, says)
      by_told (i, q, within, at, inr of) = inr (record {
        digest = q.digest;
        among = (are q.digest).1 (i, q, within, at, of.0);
        lists = of.1;
      })

  pub held_of_found : (told : List ℕ) (rows : List ℕ)
      → AreHeldBy k.receipts told → AreFound k told digests rows → AreHeld k.bodies rows
  held_of_found told rows by found = record {
    rising = found.rising;
    each = λ r. (
      λ there. some r ((found.each r).0 there),
      λ body. (found.each r).1 (back r body (held_by_any r body)),
    );
  }
    where
      some : (r : ℕ) → IsOneOf k told digests r → IsSome (k.bodies r)
      some r (inl there) = has.told r ((by.each r).0 there)
      some r (inr of) = of.1

      back : (r : ℕ) → IsSome (k.bodies r)
          → Any (SaysHeld r) k.receipts ⊎ IsOfDigests k digests r → IsOneOf k told digests r
      back r body (inl says) = inl ((by.each r).1 says)
      back r body (inr of) = inr (of, body)
