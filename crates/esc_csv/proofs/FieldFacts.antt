-- The fields of a record, and those of a record of texts.
use Rattle.std.proofs.Common.{◌≡◌, ℕ, zero, suc, true, List, [], ◌∷◌, get_or, refl, sym, inl, inr}
use Rattle.std.specs.Prelude.{unwrap_or, Result, Ok, Err, is_ok, MatchResult}
use Rattle.std.specs.List.{list_all}
use Rattle.std.specs.Str.{is_utf8, IsUtf8}
use Rattle.std.proofs.lemmas.Str.{IsUtf8-from_is_utf8, is_utf8-from_IsUtf8}
use Rattle.std.proofs.lemmas.Bool.{cases_Bool, and_parts}
use Rattle.csv.specs.Records.{field_at, AllText}

-- the field at a place, or no bytes
pub field_is : (fields : List (List ℕ)) (i : ℕ) → unwrap_or (field_at fields i) [] ≡ get_or fields i []
unfolding field_at
field_is [] i = refl
field_is (f ∷ fs) zero = refl
field_is (f ∷ fs) (suc i) = field_is fs i

-- no bytes are text
empty_text : is_utf8 [] ≡ true
empty_text = is_utf8-from_IsUtf8 [] ([], (refl, refl))

-- each field of a record of texts is text, and so is the missing one
pub text_at : (fields : List (List ℕ)) (i : ℕ)
    → list_all is_utf8 fields ≡ true → is_utf8 (get_or fields i []) ≡ true
text_at [] i h = empty_text
text_at (f ∷ fs) zero h = (and_parts (is_utf8 f) (list_all is_utf8 fs) h).0
text_at (f ∷ fs) (suc i) h = text_at fs i (and_parts (is_utf8 f) (list_all is_utf8 fs) h).1

-- what `from_utf8` returns is the test
pub is_text_by : {T E : Type 0} (bytes : List ℕ) (same : T → Type 0) (why : E → Type 0) (r : Result T E)
    → MatchResult r (λ s. same s × IsUtf8 bytes) (λ e. ¬ (IsUtf8 bytes) × why e)
    → is_ok r ≡ is_utf8 bytes
is_text_by bytes same why (Ok s) h = sym (is_utf8-from_IsUtf8 bytes h.1)
is_text_by bytes same why (Err e) h = elim (cases_Bool (is_utf8 bytes))
    [ inl text ↦ absurd (h.0 (IsUtf8-from_is_utf8 bytes text)) | inr none ↦ sym none ]

-- a record of texts is text
pub all_text : (fields : List (List ℕ)) → list_all is_utf8 fields ≡ true → AllText fields
unfolding AllText
all_text [] h = tt
all_text (f ∷ fs) h = (
  IsUtf8-from_is_utf8 f (and_parts (is_utf8 f) (list_all is_utf8 fs) h).0,
  all_text fs (and_parts (is_utf8 f) (list_all is_utf8 fs) h).1,
)
