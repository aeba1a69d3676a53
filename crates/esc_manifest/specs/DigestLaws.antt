-- Laws of digests: 64 hexadecimal digits are decoded into 32 bytes, and nothing else is.
use Rattle.std.proofs.Common.{◌≡◌, ◌∙◌, ℕ, Bool, true, false, List, length, None, Result, Ok, Err}
use Rattle.std.proofs.Common.{IsOk, is_ok, refl, sym, ap, true≢false}
use Rattle.std.specs.Prelude.{◌==◌, ◌&&◌, if◌then◌else◌}
use Rattle.std.specs.List.{list_all}
use Rattle.std.specs.Result.{result_ok}
use Rattle.std.proofs.lemmas.Bool.{and_parts, and_from, eqb-true, eq-eqb}
use Rattle.std.proofs.lemmas.List.Sums.{list_all-from_AllPass}
use Rattle.hex.specs.Hex.{decode_of, decode_sized, is_hex_digit}
use Rattle.hex.specs.declared.error.FromHexError.{FromHexError}
use Rattle.hex.proofs.HexLemmas.{IsOk-decode_sized, decode_sized-twice}
use Rattle.esc_manifest.specs.Fields.{digest_of}

-- what is decoded into 32 bytes is a digest
pub digest_is : (text : List ℕ) → result_ok (decode_sized text 32) ≡ digest_of text
digest_is text = by_test ((length text == 64) && list_all is_hex_digit text) refl
  where
    decoded : IsOk (decode_sized text 32)
        → ((length text == 64) && list_all is_hex_digit text) ≡ true
    decoded ok =
        let parts = (IsOk-decode_sized text 32).0 ok in
        and_from (length text == 64) (list_all is_hex_digit text)
        (eq-eqb (length text) 64 parts.0) (list_all-from_AllPass is_hex_digit text parts.1)

    refused : (r : Result (List ℕ) FromHexError) → decode_sized text 32 ≡ r
        → ((length text == 64) && list_all is_hex_digit text) ≡ false → result_ok r ≡ None
    refused (Err e) same other = refl
    refused (Ok bytes) same other = absurd (true≢false (sym (decoded (ap is_ok same)) ∙ other))

    by_test : (b : Bool) → ((length text == 64) && list_all is_hex_digit text) ≡ b
        → result_ok (decode_sized text 32) ≡ (if b then result_ok (decode_of text) else None)
    by_test true good =
        let parts = and_parts (length text == 64) (list_all is_hex_digit text) good in
        ap result_ok (decode_sized-twice text 32 (eqb-true (length text) 64 parts.0))
    by_test false other = refused (decode_sized text 32) refl other
