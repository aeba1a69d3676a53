use Rattle.std.proofs.Common.{◌≡◌, Result, Ok, Err, Some, String, Global, ap, ◌∙◌, w64}
use Rattle.std.specs.Prelude.{ℤ, IfOk, string_bytes}
use Rattle.std.proofs.lemmas.Int.{to_z-of_z}
use Rattle.std.proofs.lemmas.Str.{is_utf8-from_IsUtf8, IsUtf8-string_bytes}
use Rattle.esc_envelope.specs.Watermark.{watermark_of}
use Rattle.esc_manifest.specs.Fields.{moment_of}
use Rattle.esc_pack.proofs.written.moment_field.Goals as goal

-- a text that is read as a moment is a field that is read so
field_is_read : {E : Type 0} (r : Result (String Global) E) (v w : ℤ) → v ≡ w
    → IfOk r (λ text. watermark_of (string_bytes text) ≡ Some v)
    → IfOk r (λ text. moment_of (string_bytes text) ≡ Some w)
field_is_read (Ok text) v w same read =
    let is_text = is_utf8-from_IsUtf8 (string_bytes text) (IsUtf8-string_bytes text) in
    let told : moment_of (string_bytes text) ≡ Some w = rw is_text (read ∙ ap Some same) in
    told
field_is_read (Err e) v w same read = tt

pub returns-clause-read : goal.returns-clause-read
returns-clause-read c =
    field_is_read c.moment_text.result _
    c.args.watermark (to_z-of_z w64 c.args.watermark c.ranges.watermark) c.moment_text.ensures.read
