-- What a word for a moment and the text of a manifest are read as, and what stops a command.
use Rattle.std.specs.Prelude.{◌≡◌, ℕ, ℤ, List, Option, Some, None, option_map, Err}
use Rattle.std.specs.Prelude.{string_bytes, codes, if◌then◌else◌}
use Rattle.std.specs.Str.{bytes_eq}
use Rattle.std.specs.declared.io.Error.{Error}
use Rattle.esc_envelope.specs.Watermark.{watermark_of}
use Rattle.esc_manifest.specs.Manifest.{manifest_of}
use Rattle.esc_manifest.specs.declared.fault.ManifestFault.TheVariants.{Refused, NoMemory}
use Rattle.esc_store.specs.declared.fault.StoreFault.TheVariants.{NoMemory as no_memory}
use Rattle.esc_arguments.specs.declared.stop.Stop.{Stop}
use Rattle.esc_arguments.specs.declared.stop.Stop.TheVariants.{Unreadable, Manifest, Moment, Store}

-- the moment that a word names, or none for `latest`; no other word names one
abbrev pub named_moment : List ℕ → Option (Option ℤ)
named_moment word =
    if bytes_eq word (codes "latest") then Some None else option_map Some (watermark_of word)

-- the stop for a word that names no moment: it has the word, or memory was refused for that
abbrev pub IsMomentStop : List ℕ → Stop → Type 0
IsMomentStop word (Moment text) = string_bytes text ≡ word
IsMomentStop word (Store fault) = fault ≡ no_memory
IsMomentStop word stop = ⊥

-- the stop for a text that isn't read as a manifest: its refusal, or memory was refused
abbrev pub IsManifestStop : List ℕ → Stop → Type 0
IsManifestStop text (Manifest (Refused refusal row)) = manifest_of text ≡ Err (refusal, row)
IsManifestStop text (Manifest NoMemory) = Unit {0}
IsManifestStop text stop = ⊥

-- the stop for an error at a path: it has both, or memory was refused for the path
abbrev pub IsStopAt : List ℕ → Error → Stop → Type 0
IsStopAt path error (Unreadable text why) = (string_bytes text ≡ path) × (why ≡ error)
IsStopAt path error (Store fault) = fault ≡ no_memory
IsStopAt path error stop = ⊥
