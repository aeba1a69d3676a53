-- Laws of texts that are JSON, and of those that aren't.
use Rattle.std.proofs.Common.{◌≡◌, ◌∙◌, ℕ, Bool, true, false, List, Some, None, refl, ap}
use Rattle.std.specs.Prelude.{if◌then◌else◌}
use Rattle.std.specs.Str.{IsUtf8, is_utf8}
use Rattle.std.proofs.lemmas.Str.{IsUtf8-from_is_utf8, is_utf8-from_IsUtf8}
use Rattle.serde_json.specs.Data.{Data}
use Rattle.serde_json.specs.Read.{read}
use Rattle.esc_envelope.specs.Envelope.{json_of}

pub is_json : (text : List ℕ) (json : Data) → IsUtf8 text → read text ≡ Some json
    → json_of text ≡ Some json
unfolding json_of
is_json text json utf8 told =
    ap (λ b. if b then read text else None) (is_utf8-from_IsUtf8 text utf8) ∙ told

pub is_no_json : (text : List ℕ) → (IsUtf8 text → read text ≡ None) → json_of text ≡ None
unfolding json_of
is_no_json text told = by_test (is_utf8 text) refl
  where
    by_test : (b : Bool) → is_utf8 text ≡ b → (if b then read text else None) ≡ None
    by_test true utf8 = told (IsUtf8-from_is_utf8 text utf8)
    by_test false other = refl
