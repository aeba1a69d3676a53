-- The files of declared tables: two members of a declaration that the readers of a bundle pass over
-- (this project's profile).
use Rattle.std.specs.Prelude.{ℕ, List, [], ◌∷◌, Bool, false, Option, Some, None, option_map}
use Rattle.std.specs.Prelude.{option_and_then, codes}
use Rattle.serde_json.specs.Data.{Data}
use Rattle.serde_json.specs.Find.{get, as_bool, as_str}
use Rattle.esc_envelope.specs.Envelope.{json_of}
use Rattle.esc_envelope.specs.Members.{array_in, array_of, text_at}
use Rattle.esc_envelope.specs.Sequences.{◌>>=◌}
use Rattle.esc_envelope.specs.DeclaredTables.{all_of}

-- the files of a table by their names, and whether each begins with a heading row
pub record SourceValue : Type 0 where
  pub has_heading : Bool
  pub files : List (List ℕ)

-- those of the tables of contents, and of deletes
pub record SourcesValue : Type 0 where
  pub contents : List SourceValue
  pub deletes : List SourceValue

-- `heading`: missing for none, else true or false
abbrev pub heading_from : Option Data → Option Bool
heading_from None = Some false
heading_from (Some value) = as_bool value

-- an array of texts
abbrev pub texts_in : Data → Option (List (List ℕ))
texts_in value = option_and_then (all_of as_str) (array_in value)

-- the one file that `file` names
abbrev pub only_file : Data → Option (List (List ℕ))
only_file json = option_map (λ name. name ∷ []) (text_at (codes "file") json)

-- `from`: an array of names; missing for the one that `file` names
abbrev pub files_from : Data → Option Data → Option (List (List ℕ))
files_from json None = only_file json
files_from json (Some from) = texts_in from

-- the files of a declaration
unfoldable pub source_of : Data → Option SourceValue
source_of json = do
  heading ← heading_from (get (codes "heading") json)
  files ← files_from json (get (codes "from") json)
  Some (record { has_heading = heading; files = files })

-- the files of all declarations
unfoldable pub sources_in : Data → Option SourcesValue
sources_in json = do
  declared ← array_of (codes "contents") json
  deleted ← array_of (codes "deletes") json
  contents ← all_of source_of declared
  deletes ← all_of source_of deleted
  Some (record { contents = contents; deletes = deletes })

-- the files that a description names, if each member is of its form
unfoldable pub sources_of : List ℕ → Option SourcesValue
sources_of text = do
  json ← json_of text
  sources_in json
