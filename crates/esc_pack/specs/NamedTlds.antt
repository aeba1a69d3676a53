-- The TLDs that the bundles of a release name (RFC 9022, section 5.7, and this project's profile).
use Rattle.std.specs.Prelude.{ℕ, List, [], ◌∷◌, length, ◌==◌, Bool, false, not, if◌then◌else◌}
use Rattle.std.specs.Prelude.{Option, Some, None, is_some, option_and_then, codes, Result, Ok, Err}
use Rattle.std.specs.List.{find}
use Rattle.std.specs.Str.{str_eq_ignore_ascii_case}
use Rattle.serde_json.specs.Data.{Data}
use Rattle.esc_bundle.specs.declared.refusal.Refusal.{Refusal}
use Rattle.esc_bundle.specs.Bundle.{Named}
use Rattle.esc_bundle.specs.Frame.{frame}
use Rattle.esc_envelope.specs.Envelope.{json_of}
use Rattle.esc_envelope.specs.Members.{text_at}

abbrev pub unless_empty : List ℕ → Option (List ℕ)
unless_empty text = if length text == 0 then None else Some text

-- the TLD that an envelope names: a text that isn't empty
abbrev pub envelope_tld : Data → Option (List ℕ)
envelope_tld envelope = option_and_then unless_empty (text_at (codes "tld") envelope)

-- the TLD that the first of these sections names, the envelope
abbrev pub sections_tld : List Named → Option (List ℕ)
sections_tld [] = None
sections_tld (first ∷ files) = option_and_then envelope_tld (json_of first.bytes)

-- the same of the sections that were found, if they were
abbrev pub framed_tld : Result (List Named) Refusal → Option (List ℕ)
framed_tld (Ok sections) = sections_tld sections
framed_tld (Err why) = None

-- the TLD that a body names, if it is a bundle whose envelope does
abbrev pub body_tld : List ℕ → Option (List ℕ)
body_tld body = framed_tld (frame body)

-- whether two bundles name different TLDs, whatever the case of ASCII letters
abbrev pub are_other : Option (List ℕ) → Option (List ℕ) → Bool
are_other (Some tld) (Some other) = not (str_eq_ignore_ascii_case tld other)
are_other (Some tld) None = false
are_other None other = false

-- a bundle by its name, and the TLD that its envelope names, if it does
pub record NamedTldValue : Type 0 where
  pub bundle : List ℕ
  pub tld : Option (List ℕ)

-- a bundle, if the next one names another TLD
abbrev pub if_other : Option (List ℕ) → NamedTldValue → Option NamedTldValue
if_other next b = if are_other b.tld next then Some b else None

-- the first of these bundles that names a TLD, if the next one names another
abbrev pub first_against : List NamedTldValue → Option (List ℕ) → Option NamedTldValue
first_against before next = option_and_then (if_other next) (find (λ b. is_some b.tld) before)
