-- The members of an envelope outside its tables (this project's profile of RFC 8909, section 5.1).
use Rattle.std.specs.Prelude.{ℕ, ◌<◌, ℤ, List, [], ◌∷◌, ◌++◌, length, ◌==◌, nat_le}
use Rattle.std.specs.Prelude.{if◌then◌else◌}
use Rattle.std.specs.Prelude.{Option, Some, None, option_map, option_and_then, is_some, codes}
use Rattle.std.specs.Str.{bytes_eq}
use Rattle.serde_json.specs.Data.{Data, Items, no_items, item}
use Rattle.serde_json.specs.Find.{get, as_null, as_str, as_number, as_u64, as_array, as_object}
use Rattle.esc_envelope.specs.declared.kind.Kind.{Kind}
use Rattle.esc_envelope.specs.declared.place.DepositType.{DepositType}
use Rattle.esc_envelope.specs.declared.place.DepositType.TheVariants.{Diff, Incr, Full}
use Rattle.esc_envelope.specs.HeaderValue.{HeaderValue}
use Rattle.esc_envelope.specs.Id.{is_id}
use Rattle.esc_envelope.specs.Kinds.{kind_name, kind_rank, kinds}
use Rattle.esc_envelope.specs.Sequences.{◌>>=◌}
use Rattle.esc_envelope.specs.Watermark.{watermark_of}

-- the text of a member that must be present
abbrev pub text_at : List ℕ → Data → Option (List ℕ)
text_at name json = option_and_then as_str (get name json)

-- the text, if it has the form of an id
abbrev pub if_id : List ℕ → Option (List ℕ)
if_id text = if is_id text then Some text else None

-- `id`: an id
abbrev pub id_of : Data → Option (List ℕ)
id_of json = option_and_then if_id (text_at (codes "id") json)

-- the word for a type
abbrev pub type_name : DepositType → List ℕ
type_name Diff = codes "DIFF"
type_name Incr = codes "INCR"
type_name Full = codes "FULL"

-- the type with this name, if there is one
abbrev pub type_named : List ℕ → Option DepositType
type_named name =
    if bytes_eq name (codes "FULL") then Some Full
    else (if bytes_eq name (codes "INCR") then Some Incr
    else (if bytes_eq name (codes "DIFF") then Some Diff else None))

-- `type`: the name of a type
abbrev pub type_of : Data → Option DepositType
type_of json = option_and_then type_named (text_at (codes "type") json)

-- `watermark`: the text of a moment
abbrev pub watermark_member : Data → Option ℤ
watermark_member json = option_and_then watermark_of (text_at (codes "watermark") json)

-- an empty text names no deposit; any other has to be an id
abbrev pub id_if_any : List ℕ → Option (Option (List ℕ))
id_if_any text = if length text == 0 then Some None else option_map (λ id. Some id) (if_id text)

abbrev pub prev_from : Option Data → Option (Option (List ℕ))
prev_from None = Some None
prev_from (Some value) = if is_some (as_null value) then Some None else option_and_then id_if_any
    (as_str value)

-- `prevId`: missing, null or empty for none, else an id
abbrev pub prev_of : Data → Option (Option (List ℕ))
prev_of json = prev_from (get (codes "prevId") json)

-- a number of digits alone, up to 18446744073709551615
abbrev pub whole_number : Data → Option ℕ
whole_number value = option_and_then as_u64 (as_number value)

-- the greatest resend
abbrev pub most_resend : ℕ
most_resend = 999_999

abbrev pub if_resend : ℕ → Option ℕ
if_resend n = if nat_le n most_resend then Some n else None

abbrev pub resend_from : Option Data → Option ℕ
resend_from None = Some 0
resend_from (Some value) = if is_some (as_null value) then Some 0 else option_and_then if_resend
    (whole_number value)

-- `resend`: missing or null for 0, else a whole number up to 999999
abbrev pub resend_member : Data → Option ℕ
resend_member json = resend_from (get (codes "resend") json)

-- the header, or nothing if one of its members is not of its form
unfoldable pub header_of : Data → Option HeaderValue
header_of json = do
  id ← id_of json
  kind ← type_of json
  watermark ← watermark_member json
  prev ← prev_of json
  resend ← resend_member json
  Some (record {
    id = id;
    place = record { watermark = watermark; kind = kind };
    prev = prev;
    resend = resend;
  })

abbrev pub count_from : Option Data → Option (Option ℕ)
count_from None = Some None
count_from (Some value) = option_map (λ n. Some n) (whole_number value)

-- the declared number of one kind, if there is one
abbrev pub declared_count : Data → Kind → Option (Option ℕ)
declared_count counts kind = count_from (get (kind_name kind) counts)

-- the entry of a declared number
abbrev pub count_entry : Kind → Option ℕ → List (Kind × ℕ)
count_entry kind None = []
count_entry kind (Some n) = (kind, n) ∷ []

-- each entry is of a kind whose rank is below this one
abbrev pub AreBelow : ℕ → List (Kind × ℕ) → Type 0
AreBelow rank [] = Unit {0}
AreBelow rank (entry ∷ others) = (kind_rank entry.0 < rank) × AreBelow rank others

-- the declared numbers of these kinds
unfoldable pub counts_among : Data → List Kind → Option (List (Kind × ℕ))
counts_among counts [] = Some []
counts_among counts (kind ∷ others) = do
  count ← declared_count counts kind
  more ← counts_among counts others
  Some (count_entry kind count ++ more)

abbrev pub counts_in : Data → Option (List (Kind × ℕ))
counts_in value = if is_some (as_object value) then counts_among value kinds else None

abbrev pub counts_from : Option Data → Option (List (Kind × ℕ))
counts_from None = Some []
counts_from (Some value) = counts_in value

-- `counts`: missing for none, else an object in which the members named as kinds are whole numbers
abbrev pub counts_of : Data → Option (List (Kind × ℕ))
counts_of json = counts_from (get (codes "counts") json)

-- the values of an array in order
abbrev pub items_list : Items → List Data
items_list no_items = []
items_list (item value others) = value ∷ items_list others

abbrev pub array_in : Data → Option (List Data)
array_in value = option_map items_list (as_array value)

abbrev pub array_from : Option Data → Option (List Data)
array_from None = Some []
array_from (Some value) = array_in value

-- `contents` or `deletes`: missing for no tables, else an array
abbrev pub array_of : List ℕ → Data → Option (List Data)
array_of name json = array_from (get name json)
