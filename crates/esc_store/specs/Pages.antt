-- A page of a store's objects.
use Rattle.std.specs.Prelude.{◌≡◌, ℕ, ◌==◌, ◌&&◌, Bool, List, [], ◌∷◌, map, Option, None, Some}
use Rattle.std.specs.Prelude.{if◌then◌else◌}
use Rattle.std.specs.Map.{lookup}
use Rattle.esc_envelope.specs.declared.kind.Kind.{Kind}
use Rattle.esc_envelope.specs.Kinds.{kind_rank}
use Rattle.esc_tables.specs.KeyName.{KeyName, key_eq}
use Rattle.esc_apply.specs.ObjectStreams.{Entry, InOrder}
use Rattle.esc_apply.specs.Registry.{ObjectsByKey}
use Rattle.esc_record.specs.Record.{record_of}
use Rattle.esc_sql.specs.Changes.{ObjectEntry, is_from, is_up_to}

-- the text of the last entry's key, if there is one
abbrev pub last_text : List Entry → Option (List ℕ)
last_text [] = None
last_text (e ∷ []) = Some e.0.text
last_text (e ∷ f ∷ es) = last_text (f ∷ es)

-- the keys of a page: of the kind, those whose texts are these bytes or come after them, up to the
-- last one, if there is one
abbrev pub is_on_page : Kind → List ℕ → Option (List ℕ) → KeyName → Bool
is_on_page kind from last q = (kind_rank kind == kind_rank q.kind) && is_from from q.text
    && is_up_to last q.text

-- the entries are in the order of keys, and are what the content has at the keys of the page. If
-- there is no entry, the content has nothing of the kind from these bytes on
pub record IsPage (content : ObjectsByKey) (kind : Kind) (from : List ℕ) (es : List Entry)
    : Type 0 where
  pub order : InOrder es
  pub each : (q : KeyName) → lookup (key_eq q) es
      ≡ (if is_on_page kind from (last_text es) q then content q else None)

-- the number of a key's kind, the bytes of its text, and the record of its object, if it has one
abbrev pub entry_row : Entry → ℕ × List ℕ × Option (List ℕ)
entry_row e = (kind_rank e.0.kind, e.0.text, record_of e.1)

-- the same of a row
abbrev pub record_row : ObjectEntry → ℕ × List ℕ × Option (List ℕ)
record_row r = (r.kind, r.key, Some r.bytes)

-- the rows are those of these entries, in their order
pub record AreRowsOf (es : List Entry) (rows : List ObjectEntry) : Type 0 where
  pub same : map entry_row es ≡ map record_row rows
