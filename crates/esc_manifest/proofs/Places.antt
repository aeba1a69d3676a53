-- A map from ids to places that a loop over rows fills, and what it says of the rows.
use Rattle.std.proofs.Common.{◌≡◌, ℕ, ◌+◌, ◌<◌, Bool, true, false, cond, List, length, get_or, Option}
use Rattle.std.proofs.Common.{Some, None, refl, sym, ap, ◌∙◌, arith, inl, inr}
use Rattle.std.specs.Prelude.{ℤ, not, ◌&&◌, int_lt}
use Rattle.std.specs.BTreeMap.{BTreeMap}
use Rattle.std.specs.List.{list_all}
use Rattle.std.specs.Map.{update}
use Rattle.std.specs.Str.{bytes_eq}
use Rattle.std.proofs.lemmas.Bool.{cases_Bool, cases_lt}
use Rattle.std.proofs.lemmas.List.{get_or_read}
use Rattle.std.proofs.lemmas.List.Folds.{list_all_at}
use Rattle.std.proofs.lemmas.Slice.Eq.{bytes_eq-Decides}
use denote.Ref.{Bor}
use Rattle.esc_envelope.specs.declared.place.DepositType.{DepositType}
use Rattle.esc_envelope.specs.declared.place.DepositType.TheVariants.{Diff, Incr, Full}
use Rattle.esc_envelope.specs.declared.place.Place.{Place}
use Rattle.esc_manifest.specs.declared.row.MRow.{MRow}
use Rattle.esc_manifest.specs.Lookups.{place_in, HavePlaces, is_no_earlier, names_later}
use Rattle.esc_manifest.specs.RowFaults.{is_some_id, is_diff, moved_id, follows_later}
use Rattle.esc_manifest.specs.RowFaults.{first_against_earlier, first_against_any}
use Rattle.esc_manifest.specs.ManifestRows.{no_row, row_at, id_at, place_at}
use Rattle.esc_manifest.proofs.AcceptedRows.{no_earlier, against_none}
use Rattle.esc_manifest.proofs.RowTests.{not_moved_id}

-- the map has the places of the rows so far
abbrev pub HaveOwnPlaces : List MRow → ℕ → BTreeMap (Bor (List ℕ)) Place → Type 0
HaveOwnPlaces m i places = (r : ℕ) → r < i → place_in places (id_at m r) ≡ Some (place_at m r)

-- one more row, whose id had no place or its own
pub place_put : (m : List MRow) (i : ℕ) (row : MRow) (key : List ℕ)
    (p : Place) (s n : BTreeMap (Bor (List ℕ)) Place) → i < length m → row ≡ get_or m i row
    → key ≡ row.header.id → p ≡ row.header.place
    → ((q : Place) → place_in s key ≡ Some q → q ≡ p)
    → ((id : List ℕ) → place_in n id ≡ update bytes_eq (place_in s) key (Some p) id)
    → HaveOwnPlaces m i s → HaveOwnPlaces m (i + 1) n
place_put m i row key p s n inside is own here alone put known r lt = elim (cases_Bool (bytes_eq key (id_at m r))) [
  | inl on ↦
      let same : key ≡ id_at m r = (bytes_eq-Decides key (id_at m r)).0 on in
      let now : place_in n (id_at m r) ≡ Some p =
      put (id_at m r) ∙ ap (λ (b : Bool). cond b (Some p) (place_in s (id_at m r))) on in
      elim (cases_lt r i) [
        | inl below ↦ now ∙ sym (ap Some (alone (place_at m r) (ap (place_in s) same ∙ known r below)))
        | inr above ↦ let last : i ≡ r = omega arith in
            now ∙ ap Some (here ∙ ap (λ (x : MRow). x.header.place) at ∙ ap (place_at m) last)
      ]
  | inr off ↦
      let now : place_in n (id_at m r) ≡ place_in s (id_at m r) =
      put (id_at m r) ∙ ap (λ (b : Bool). cond b (Some p) (place_in s (id_at m r))) off in
      elim (cases_lt r i) [
        | inl below ↦ now ∙ known r below
        | inr above ↦
            let last : i ≡ r = omega arith in
            let on : bytes_eq key (id_at m r) ≡ true = (bytes_eq-Decides key (id_at m r)).1
            (own ∙ ap (λ (x : MRow). x.header.id) at ∙ ap (id_at m) last) in
            absurd cc
      ]
]
  where
    at : row ≡ row_at m i
    at = get_or_read m i row inside is no_row

-- ---- what such a map says

some_is : (a b : Place) → ◌≡◌ {A = Option Place} (Some a) (Some b) → a ≡ b
some_is a b e = cc

-- where the map has each id's place none has moved
pub ids_stay : (m : List MRow) (places : BTreeMap (Bor (List ℕ)) Place)
    → HavePlaces m places → first_against_earlier moved_id m ≡ None
ids_stay m places have = no_earlier moved_id m (λ q r before lt. not_moved_id (row_at m q) (row_at m r)
    (λ same. some_is (place_at m q)
    (place_at m r) (sym (have q (omega arith)) ∙ ap (place_in places) same ∙ have r lt)))

named_later : (places : BTreeMap (Bor (List ℕ)) Place) (k : DepositType)
    (o : Option (List ℕ)) (id : List ℕ) (p : Place) (w : ℤ) → place_in places id ≡ Some p
    → (is_diff k && is_some_id (λ x. is_no_earlier (place_in places x) w) o) ≡ false
    → (is_diff k && is_some_id (bytes_eq id) o && not (int_lt p.watermark w)) ≡ false
named_later places Incr o id p w at e = refl
named_later places Full o id p w at e = refl
named_later places Diff None id p w at e = refl
named_later places Diff (Some prev) id p w at e = elim (cases_Bool (bytes_eq id prev)) [
  | inl on ↦
      let same : id ≡ prev = (bytes_eq-Decides id prev).0 on in
      let found : is_no_earlier (Some p) w ≡ false =
      ap (λ (o : Option Place). is_no_earlier o w) (sym at ∙ ap (place_in places) same) ∙ e in
      rw on found
  | inr off ↦ rw off refl
]

-- where no row names a later one all name earlier ones
pub names_are_earlier : (m : List MRow) (places : BTreeMap (Bor (List ℕ)) Place) → HavePlaces m places
    → list_all (λ row. not (names_later places row)) m ≡ true → first_against_any follows_later m ≡ None
names_are_earlier m places have all = against_none follows_later m (λ q r in_q in_r.
    let row = row_at m r in
    let here : names_later places row ≡ false = elim (cases_Bool (names_later places row)) [
      | inl later ↦
          let wrong : not (names_later places row) ≡ false = rw later refl in
          let none = list_all_at (λ row. not (names_later places row)) m r no_row in_r wrong in
          absurd (cc (all, none))
      | inr other ↦ other
    ] in
    named_later places row.header.place.kind row.header.prev (id_at m q)
    (place_at m q) row.header.place.watermark (have q in_q) here)
