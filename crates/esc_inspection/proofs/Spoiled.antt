-- One held row more among those whose bodies are compared with what they list.
use Rattle.std.proofs.Common.{◌≡◌, ◌⊎◌, inl, inr, ℕ, Bool, true, false, List, [], ◌∷◌, ◌++◌}
use Rattle.std.proofs.Common.{Option, Some, None, Bor, length, refl, sym, subst, true≢false}
use Rattle.std.specs.Prelude.{◌↔◌, cond, slice_get, option_map, IsTrue}
use Rattle.std.specs.Slice.{IsItemAt}
use Rattle.std.proofs.lemmas.Option.{slice_get_past, slice_get_read}
use Rattle.std.specs.List.{Contains}
use Rattle.std.proofs.lemmas.List.Elements.{Contains-append_left, Contains-push, Contains-push_cases}
use Rattle.esc_bundle.specs.ElementLaws.{nothing_in}
use Rattle.esc_manifest.specs.declared.row.MRow.{MRow}
use Rattle.esc_acceptance.specs.Listed.{IsAsListed}
use Rattle.esc_events.specs.Events.{EventValue, union}
use Rattle.esc_inspection.specs.Parts.{AreSpoiledAmong, IsSpoiled, body_at}

module _ (P : ℕ → Type 0) where
  -- these are the rows among some that have a property
  abbrev AreThose : List ℕ → List ℕ → Type 0
  AreThose rows those = (row : ℕ) → Contains those row ↔ (Contains rows row × P row)

  -- a row that hasn't it is none of them
  left_out : (rows those : List ℕ) (r : ℕ) → (P r → ⊥)
      → AreThose rows those → AreThose (rows ++ r ∷ []) those
  left_out rows those r unlike had = λ row. (
    λ there. let k = (had row).0 there in (Contains-append_left rows (r ∷ []) row k.0, k.1),
    λ h. elim (Contains-push_cases rows r row h.0)
        [ inl front ↦ (had row).1 (front, h.1) | inr same ↦ absurd (unlike (subst P (sym same) h.1)) ],
  )

  -- a row that has it is the last of them
  added : (rows those : List ℕ) (r : ℕ) → P r
      → AreThose rows those → AreThose (rows ++ r ∷ []) (those ++ r ∷ [])
  added rows those r like had = λ row. (
    λ there. elim (Contains-push_cases those r row there) [
      | inl front ↦ let k = (had row).0 front in (Contains-append_left rows (r ∷ []) row k.0, k.1)
      | inr same ↦ (subst (Contains (rows ++ r ∷ [])) same (Contains-push rows r), subst P same like)
    ],
    λ h. elim (Contains-push_cases rows r row h.0) [
      | inl front ↦ Contains-append_left those (r ∷ []) row ((had row).1 (front, h.1))
      | inr same ↦ subst (Contains (those ++ r ∷ [])) same (Contains-push those r)
    ],
  )

-- one held row more, whose body was compared with what is listed
pub one_row_more : (e : List EventValue) (rows spoiled after : List ℕ) (row : ℕ) (is_listed : Bool)
    → (IsTrue is_listed ↔ IsAsListed (slice_get (union e) row) (body_at e row))
    → after ≡ cond is_listed spoiled (spoiled ++ row ∷ [])
    → AreSpoiledAmong e rows spoiled → AreSpoiledAmong e (rows ++ row ∷ []) after
one_row_more e rows spoiled after row true says is had =
    subst (AreSpoiledAmong e (rows ++ row ∷ [])) (sym is)
    (left_out (IsSpoiled e) rows spoiled row (λ isnt. isnt (says.0 refl)) had)
one_row_more e rows spoiled after row false says is had =
    subst (AreSpoiledAmong e (rows ++ row ∷ [])) (sym is)
    (added (IsSpoiled e) rows spoiled row (λ same. true≢false (sym (says.1 same))) had)

-- what was compared is what is listed and held
pub compared : {is_listed : Bool} {listed of_row : Option MRow} {read held : Option (List ℕ)}
    → (IsTrue is_listed ↔ IsAsListed listed read) → listed ≡ of_row → read ≡ held
    → IsTrue is_listed ↔ IsAsListed of_row held
compared {is_listed} {listed} {of_row} {read} {held} says same_row same_body =
    subst (λ b. IsTrue is_listed ↔ IsAsListed of_row b) same_body
    (subst (λ r. IsTrue is_listed ↔ IsAsListed r read) same_row says)

-- what a slice lends of the element at an index
pub lent : {X : Type 0} (xs : List X) (i : ℕ) (r : Option (Bor X))
    → IsItemAt xs i r → option_map (λ (x : Bor X). x.now) r ≡ slice_get xs i
lent xs i None h = sym (slice_get_past xs i h.3)
lent xs i (Some x) h = sym (slice_get_read xs (length xs) i x.now refl h.3.0 h.1)

-- no row at all
pub no_rows : (e : List EventValue) → AreSpoiledAmong e [] []
no_rows e = λ row. (λ there. absurd (nothing_in row there), λ h. absurd (nothing_in row h.0))
