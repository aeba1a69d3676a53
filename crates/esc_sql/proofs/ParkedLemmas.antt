-- What the statements on parked bodies and on the moment do.
use Rattle.esc_sql.proofs.Common.{◌≡◌, ℕ, pos, true, false, List, [], ◌∷◌, refl, map, Option, sym, ap}
use Rattle.esc_sql.proofs.Common.{subst, ◌∙◌, ℤ, slice_get, option_map, Less, is_eq, is_some, bytes_eq}
use Rattle.esc_sql.proofs.Common.{and_parts, nat_list_cmp_total, nat_list_eq_equiv, on_total}
use Rattle.esc_sql.proofs.Common.{list_any-IsPermutation, is_eq-slice_cmp, bytes_eq-Decides}
use Rattle.esc_sql.proofs.Common.{IsTotalOrder, slice_cmp, list_any, nat_cmp, Database, IsAscending}
use Rattle.esc_sql.proofs.Common.{map-map, ascending_weaker, ascending-map, IsPermutation-sort_by}
use Rattle.esc_sql.proofs.Common.{insert_by}
use Rattle.esc_sql.proofs.Common.{has_key, sort_by, delete_where, value_cmp-Blob, Row, Int, Blob}
use Rattle.esc_sql.proofs.Common.{Becomes, HoldsContent, Content, first_of, by_digest, shown_digest}
use Rattle.esc_sql.proofs.Common.{parked_digest, stored_row, Parked, Moment, insert_parked_text}
use Rattle.esc_sql.proofs.Common.{find_parked_text, parked_length_text, parked_digests_text, delete_parked_text}
use Rattle.esc_sql.proofs.Common.{clear_moment_text, insert_moment_text, find_moment_text, first_key}
use Rattle.esc_sql.proofs.Common.{IsPermutation-refl, arith, IsPermutation-map}
use Rattle.sqlite.specs.Ops.{unary}
use Rattle.std.proofs.lemmas.Map.Views.{Contains-from_any, list_any-from_Contains}
use Rattle.esc_sql.specs.Rows.{ParkedRow, MomentRow, moment_number}
use Rattle.esc_sql.specs.Content.{parked_at, is_parked_at, moment_set}
use Rattle.esc_sql.specs.Parked.{PutsParked, RemovesParked, ListsParked, shown_parked, ShowsParked}
use Rattle.esc_sql.specs.Parked.{shown_length, ShowsLength}
use Rattle.esc_sql.specs.Parked.{ShowsDigests, without_moment, moment_row, SetsMoment, shown_moment}
use Rattle.esc_sql.specs.Parked.{ShowsMoment}
use Rattle.esc_sql.proofs.Compiled.{parked_tests, write_is, query_is}
use Rattle.esc_sql.proofs.Scan.{is_match, same_blob, and_true, short_rises}
use Rattle.esc_sql.proofs.ManyRows.{gains}
use Rattle.esc_sql.proofs.Values.{cast_null, cast_int}
use Rattle.esc_sql.proofs.Finds.{found-delete, IsKey, unique_key, few, key_test}
use Rattle.esc_sql.proofs.Sorts.{then_equal, rises-sorted}
use Rattle.esc_sql.proofs.Typed.{every}
use Rattle.esc_sql.proofs.Statements.{finds, cuts, asks_sorted, clears, adds, asks_in_order}
use Rattle.esc_sql.proofs.PartLemmas.{IsAsking, IsWriting, writing_as, asking_as}
use Rattle.sqlite_keyed.proofs.RuleLemmas.{at_most_one}

parked_keys : IsKey Parked (λ p. p.digest) bytes_eq
unfolding first_key
parked_keys = unique_key Parked (1 ∷ []) _ bytes_eq nat_list_eq_equiv (λ a b. rw (
  same_blob a.digest
      b.digest,
  and_true (bytes_eq a.digest b.digest),
) refl) (λ trees row h. (and_parts _ true h).0)

-- ---- insert

-- the INSERT of a parked body puts it
pub puts_parked : (digest body : List ℕ)
    → IsWriting insert_parked_text (Blob digest ∷ Blob body ∷ []) (PutsParked digest body)
puts_parked digest body =
    writing_as (gains Parked {E = Unit {0}} (λ id _. record { id = id; digest = digest; body = body })
    (λ p. p.id) (λ p. refl) (λ n e. refl)
    (λ _. Blob digest ∷ Blob body ∷ []) (λ n e. refl) (λ e. rw cast_null refl)
    (λ p. p.body) (λ _. body) (λ n e. refl) is_parked_at (λ d _. bytes_eq digest d) (λ d n e. refl)
    (few parked_keys (λ _. true)) (tt ∷ []) (write_is refl) refl) (λ old new did c h.
    let put = did c h in (
      put.0,
      put.1,
      (put.2 digest).0 (rw (nat_list_eq_equiv.refl digest) refl),
      λ d. grind (arith, (put.2 d).1),
    ))

-- ---- delete

at_digest : (digest : List ℕ) (p : ParkedRow)
    → is_match parked_tests (Blob digest ∷ []) (stored_row Parked p) ≡ is_parked_at digest p
at_digest digest p = and_true _ ∙ same_blob p.digest digest

-- the DELETE of a parked body removes it
pub removes_parked : (digest : List ℕ) → IsWriting delete_parked_text (Blob digest ∷ []) (RemovesParked digest)
removes_parked digest =
    writing_as (cuts Parked (is_parked_at digest) (write_is refl) (at_digest digest)) (λ old new cut c h. (
      delete_where (is_parked_at digest) c.parked,
      cut c h,
      λ d. found-delete (λ p. p.body) (is_parked_at digest)
          (is_parked_at d) (bytes_eq digest d) (λ p. key_test parked_keys digest d p.digest) c.parked,
    ))

-- ---- find

-- the query of one parked body shows it
pub finds_parked : (digest : List ℕ) → IsAsking find_parked_text (Blob digest ∷ []) (ShowsParked digest)
finds_parked digest = finds Parked (is_parked_at digest) shown_parked (query_is refl)
    (at_digest digest) (λ p. refl) (few parked_keys (λ _. true) digest)

pub shows_length : (digest : List ℕ) → IsAsking parked_length_text (Blob digest ∷ []) (ShowsLength digest)
unfolding unary
shows_length digest = finds Parked (is_parked_at digest) shown_length (query_is refl)
    (at_digest digest) (λ p. refl) (few parked_keys (λ _. true) digest)

-- ---- the digests

total : IsTotalOrder by_digest
total = on_total parked_digest nat_list_cmp_total

unlike : (db : Database) (c : Content)
    → HoldsContent db c → IsAscending (λ a b. is_eq (by_digest a b) ≡ false) c.parked
unlike db c h = ascending_weaker _ (λ a b. is_eq (by_digest a b) ≡ false)
    (λ a b e. is_eq-slice_cmp a.digest b.digest ∙ e) c.parked (parked_keys.apart db c h)

-- the query of digests shows that of each parked body
pub shows_digests : IsAsking parked_digests_text [] ShowsDigests
shows_digests =
    asking_as (asks_sorted Parked (λ p. (Blob p.digest ∷ [], Blob p.digest ∷ [])) (query_is refl) every
    (λ p. refl) by_digest total (λ a b. then_equal _ ∙ value_cmp-Blob a.digest b.digest) unlike)
    (λ c rows is. is ∙ sym (map-map shown_digest parked_digest (sort_by by_digest c.parked)))

-- a digest is that of a row exactly where a body is found under it
found_any : (d : List ℕ) (ps : List ParkedRow)
    → list_any (bytes_eq d) (map parked_digest ps) ≡ is_some (parked_at d ps)
found_any d [] = refl
found_any d (p ∷ ps) = grind (arith, nat_list_eq_equiv.symm d p.digest, found_any d ps)

-- the digests that are shown are those of the parked bodies, in order
pub lists_parked : (db : Database) (c : Content) (found : List (List ℕ))
    → HoldsContent db c → found ≡ map parked_digest (sort_by by_digest c.parked) → ListsParked c found
lists_parked db c found h is = subst (ListsParked c) (sym is) (record {
  rising = ascending-map (λ a b. slice_cmp nat_cmp a b ≡ Less) parked_digest
      (sort_by by_digest c.parked) (rises-sorted by_digest total c.parked (unlike db c h));
  each = λ d. (
    λ has. sym (there d) ∙ list_any-from_Contains nat_list_eq_equiv d _ has,
    λ some. Contains-from_any (λ a b. (bytes_eq-Decides a b).0) d _ (there d ∙ some),
  );
}) where
  there : (d : List ℕ) → list_any (bytes_eq d) (map parked_digest (sort_by by_digest c.parked))
      ≡ is_some (parked_at d c.parked)
  there d =
      list_any-IsPermutation (bytes_eq d) _ (map parked_digest c.parked)
      (IsPermutation-map parked_digest _ c.parked (IsPermutation-sort_by by_digest total c.parked))
      ∙ found_any d c.parked

-- ---- the moment

-- the DELETE of the moment leaves none
pub clears_moment : IsWriting clear_moment_text [] (Becomes without_moment)
clears_moment = clears Moment (write_is refl)

-- every row has the one number
none_free : (ms : List MomentRow) → has_key moment_number ms (pos 1) ≡ false → ms ≡ []
none_free [] free = refl
none_free (m ∷ ms) free = absurd cc

-- the INSERT of a moment sets it
pub sets_moment : (watermark : ℤ) → IsWriting insert_moment_text (Int watermark ∷ []) (SetsMoment watermark)
sets_moment watermark =
    let m = moment_row watermark in
    writing_as (adds Moment (write_is refl)
    m refl (rw (cast_null, cast_int (pos 1), cast_int watermark) refl)) (λ old new added c h.
    let none = none_free c.moment (added c h).1 in
    (subst (λ ms. HoldsContent new (record c { moment = insert_by moment_number ms m })) none (added c h).0, none))

-- the query of the moment shows it
pub finds_moment : IsAsking find_moment_text [] ShowsMoment
finds_moment =
    asks_in_order Moment (λ m. ([], shown_moment m)) (query_is refl) every (λ m. refl) (λ c. c.moment)
    (λ db c h. (
      IsPermutation-refl c.moment,
      short_rises _ c.moment (rw (every c.moment) at (at_most_one
          moment_number (pos 1) (λ _. true) (λ m is. refl) c.moment (h.store.ordered Moment))),
    ))

-- the moment that is read of the rows is the one that is set
pub moment_is : (c : Content) (rows : List Row) (found : Option ℤ) → ShowsMoment c rows
    → option_map Int found ≡ option_map first_of (slice_get rows 0) → found ≡ moment_set c.moment
moment_is c rows found shows is = go c.moment found (is ∙ ap (λ l. option_map first_of (slice_get l 0)) shows)
  where
    go : (ms : List MomentRow) (o : Option ℤ)
        → option_map Int o ≡ option_map first_of (slice_get (map shown_moment ms) 0) → o ≡ moment_set ms
    go [] o h = grind (arith, h)
    go (m ∷ ms) o h = grind (arith, h)
