-- The envelope that a JSON text is, or why it is none (this project's profile).
use Rattle.std.specs.Prelude.{ℕ, List, if◌then◌else◌, Option, None, Result, Ok, codes}
use Rattle.std.specs.Str.{is_utf8}
use Rattle.serde_json.specs.Data.{Data}
use Rattle.serde_json.specs.Read.{read}
use Rattle.esc_bundle.specs.declared.refusal.Refusal.{Refusal}
use Rattle.esc_bundle.specs.declared.refusal.Refusal.TheVariants.{NotJson, WrongMember, WrongTable}
use Rattle.esc_bundle.specs.Tests.{◌>>=◌, or_fault}
use Rattle.esc_envelope.specs.EnvelopeValue.{EnvelopeValue}
use Rattle.esc_envelope.specs.Members.{header_of, counts_of, array_of}
use Rattle.esc_envelope.specs.DeclaredTables.{contents_in, deletes_in}

-- the JSON that a text is, which has to be UTF-8
unfoldable pub json_of : List ℕ → Option Data
json_of text = if is_utf8 text then read text else None

-- the envelope that JSON data is. U6: a member other than those of a table is missing, or not of
-- its form. U7: the declaration of a table is not valid
unfoldable pub envelope_in : Data → Result EnvelopeValue Refusal
envelope_in json = do
  header ← or_fault WrongMember (header_of json)
  counts ← or_fault WrongMember (counts_of json)
  declared ← or_fault WrongMember (array_of (codes "contents") json)
  deleted ← or_fault WrongMember (array_of (codes "deletes") json)
  contents ← or_fault WrongTable (contents_in declared)
  deletes ← or_fault WrongTable (deletes_in deleted)
  Ok (record { header = header; counts = counts; contents = contents; deletes = deletes })

-- the envelope that a text is. U5: the text is no JSON
unfoldable pub envelope_of : List ℕ → Result EnvelopeValue Refusal
envelope_of text = do
  json ← or_fault NotJson (json_of text)
  envelope_in json
