-- What a walk over the objects gathers, with repeats, as lists. The crate's own functions return
-- these to one another; `Findings` alone says what `verify` returns.
use Rattle.std.specs.Prelude.{◌≡◌, ◌+◌, ℕ, ℤ, int_lt, ◌==◌, Bool, true, false, not, ◌&&◌}
use Rattle.std.specs.Prelude.{if◌then◌else◌}
use Rattle.std.specs.Prelude.{List, [], ◌∷◌, ◌++◌, map, filter, count_by, Option, Some, None}
use Rattle.std.specs.Prelude.{is_some, codes}
use Rattle.std.specs.List.{flat_map, list_any}
use Rattle.std.specs.BTreeSet as sorted
use Rattle.std.specs.Map.{lookup, keys_of}
use Rattle.std.specs.Str.{bytes_eq}
use Rattle.esc_envelope.specs.declared.kind.Kind.{Kind}
use Rattle.esc_envelope.specs.Kinds.{is_kind}
use Rattle.esc_envelope.specs.Watermark.{watermark_of}
use Rattle.esc_tables.specs.KeyName.{KeyName, key_cmp, key_eq}
use Rattle.esc_tables.specs.ObjectValue.{RowValue, ObjectValue}
use Rattle.esc_apply.specs.ObjectStreams.{Entry}
use Rattle.esc_check.specs.declared.field.LinkField.{LinkField}
use Rattle.esc_check.specs.declared.walk.Verification.{Verification}
use Rattle.esc_check.specs.Counted.{came_of}
use Rattle.esc_check.specs.Export.{is_of_table}
use Rattle.esc_check.specs.Fields.{cell, field_name, parent_fields, is_domain, is_target}
use Rattle.esc_check.specs.Fields.{child_field, status_table, created, expires}
use Rattle.esc_check.specs.FindingValue.{FindingValue}
use Rattle.esc_check.specs.Findings.{missing_target, miscounted, unknown_status, mixed_status, late}
use Rattle.esc_check.specs.Findings.{early, malformed}
use Rattle.esc_check.specs.LinkValue.{LinkValue, link_to_name}
use Rattle.esc_check.specs.Statuses.{status_words}

-- whether a text is empty
abbrev pub is_empty_text : List ℕ → Bool
is_empty_text [] = true
is_empty_text (b ∷ bs) = false

-- the link of a text, if it is not empty
abbrev pub text_links : KeyName → LinkField → List ℕ → List LinkValue
text_links k g text = if is_empty_text text then [] else link_to_name k g text ∷ []

-- the links of a field of a row
abbrev pub field_links : KeyName → RowValue → LinkField → List LinkValue
field_links k r g = text_links k g (cell (field_name g) r)

-- the links of a row by this field, if there is one
abbrev pub row_links : KeyName → RowValue → Option LinkField → List LinkValue
row_links k r None = []
row_links k r (Some g) = field_links k r g

-- the links of a child row
abbrev pub child_links : KeyName → RowValue → List LinkValue
child_links k r = row_links k r (child_field k.kind r.table)

-- the links of an object
abbrev pub links_of : KeyName → ObjectValue → List LinkValue
links_of k o = flat_map (field_links k o.parent) (parent_fields k.kind)
    ++ flat_map (child_links k) o.children

-- whether these entries have a key
abbrev pub is_present : List Entry → KeyName → Bool
is_present es q = is_some (lookup (key_eq q) es)

-- the findings V1 of links, if these are the keys of the tables
abbrev pub link_findings : (KeyName → Bool) → List LinkValue → List FindingValue
link_findings present links = map missing_target (filter (λ l. not (present l.to)) links)

-- how many of these keys are of a kind
abbrev pub count_of_kind : List KeyName → Kind → ℕ
count_of_kind keys kind = count_by (λ q. is_kind q.kind kind) keys

-- the finding V2 of a declared number, if any, where so many objects are of each kind
abbrev pub number_findings : (Kind → ℕ) → Kind × ℕ → List FindingValue
number_findings count d = if count d.0 == d.1 then [] else miscounted d.0 d.1 (count d.0) ∷ []

-- the finding V2 of a declared number, if any, where these are the keys of the tables
abbrev pub count_findings : List KeyName → Kind × ℕ → List FindingValue
count_findings keys d = number_findings (count_of_kind keys) d

-- the status in a row, if the row is of the table and its status isn't empty
abbrev pub row_status : List ℕ → RowValue → List (List ℕ)
row_status table r = if is_of_table table r then
    (if is_empty_text (cell (codes "status") r) then [] else cell (codes "status") r ∷ []) else []

-- the statuses in the rows of a table, if there is a table
abbrev pub statuses_in : Option (List ℕ) → List RowValue → List (List ℕ)
statuses_in None rows = []
statuses_in (Some table) rows = flat_map (row_status table) rows

-- the statuses of an object
abbrev pub statuses_of : KeyName → ObjectValue → List (List ℕ)
statuses_of k o = statuses_in (status_table k.kind) o.children

-- whether a text is one of the statuses that a kind's objects may have
abbrev pub is_status : Kind → List ℕ → Bool
is_status k s = list_any (λ w. bytes_eq w s) (status_words k)

-- whether a status is `ok`
abbrev pub is_ok : List ℕ → Bool
is_ok s = bytes_eq s (codes "ok")

-- the finding V3 of one status, if any
abbrev pub one_unknown : KeyName → List ℕ → List FindingValue
one_unknown k s = if is_status k.kind s then [] else unknown_status k s ∷ []

-- whether these are a domain's statuses, `ok` among them and another
abbrev pub is_mixed : Kind → List (List ℕ) → Bool
is_mixed kind ss = is_domain kind && (list_any is_ok ss && list_any (λ s. not (is_ok s)) ss)

-- the findings V3 and V4 of an object's statuses
abbrev pub status_findings : KeyName → List (List ℕ) → List FindingValue
status_findings k ss = flat_map (one_unknown k) ss
    ++ (if is_mixed k.kind ss then mixed_status k ∷ [] else [])

-- whether a moment is known and after another
abbrev pub is_known_after : Option ℤ → ℤ → Bool
is_known_after None w = false
is_known_after (Some d) w = int_lt w d

-- whether two moments are known, the first before the second
abbrev pub is_known_before : Option ℤ → Option ℤ → Bool
is_known_before None c = false
is_known_before (Some e) None = false
is_known_before (Some e) (Some c) = int_lt e c

-- whether a text is neither empty nor a watermark
abbrev pub is_malformed : List ℕ → Bool
is_malformed text = not (is_empty_text text) && not (is_some (watermark_of text))

-- the finding V5 of a date of creation, if any
abbrev pub late_findings : ℤ → List ℕ → KeyName → List ℕ → List FindingValue
late_findings w shown k text
    = if is_known_after (watermark_of text) w then late k text shown ∷ [] else []

-- the finding V6 of a date of expiry, if any, by the date of creation
abbrev pub early_findings : KeyName → List ℕ → List ℕ → List FindingValue
early_findings k text created_text
    = if is_known_before (watermark_of text) (watermark_of created_text) then
    early k text created_text ∷ [] else []

-- the finding V7 of a date, if any
abbrev pub malformed_findings : KeyName → List ℕ → List ℕ → List FindingValue
malformed_findings k field text = if is_malformed text then malformed k field text ∷ [] else []

-- the findings V5 and V6 of a date of creation and a date of expiry
abbrev pub moment_findings : ℤ → List ℕ → KeyName → List ℕ → List ℕ → List FindingValue
moment_findings w shown k c e = late_findings w shown k c ++ early_findings k e c

-- their findings V7
abbrev pub form_findings : KeyName → List ℕ → List ℕ → List FindingValue
form_findings k c e = malformed_findings k (codes "crDate") c
    ++ malformed_findings k (codes "exDate") e

-- the findings V3 to V7 of an object
abbrev pub own_findings : ℤ → List ℕ → KeyName → ObjectValue → List FindingValue
own_findings w shown k o =
    status_findings k (statuses_of k o)
    ++ (moment_findings w shown k (created k o) (expires k o)
    ++ form_findings k (created k o) (expires k o))

-- the findings of an object, except V2, if these are the keys of the tables
abbrev pub object_findings : (KeyName → Bool) → ℤ → List ℕ → Entry → List FindingValue
object_findings present w shown e = link_findings present (links_of e.0 e.1)
    ++ own_findings w shown e.0 e.1

-- those of these keys to which a link may lead
abbrev pub targets : List KeyName → List KeyName
targets keys = filter (λ q. is_target q.kind) keys

-- the links of these entries
abbrev pub all_links : List Entry → List LinkValue
all_links es = flat_map (λ e. links_of e.0 e.1) es

-- what a walk has gathered, together with the entries that are left, makes up what the whole has:
-- what is found of each object by itself, the keys to which a link may lead, how many are of each
-- kind, and the links that wait; a link that was dropped leads to a key that was met
pub record Leads (w : ℤ) (shown : List ℕ) (v : Verification) (left whole : List Entry) : Type 0 where
  pub found : v.found.items ++ flat_map (λ e. own_findings w shown e.0 e.1) left
      ≡ flat_map (λ e. own_findings w shown e.0 e.1) whole
  pub met : v.met.keys ++ targets (keys_of left) ≡ targets (keys_of whole)
  pub came : (kind : Kind) → came_of v.came kind + count_of_kind (keys_of left) kind
      ≡ count_of_kind (keys_of whole) kind
  pub waiting : (present : KeyName → Bool)
      → ((q : KeyName) → sorted.contains key_cmp v.met q ≡ true → present q ≡ true)
      → link_findings present v.waiting.items ++ link_findings present (all_links left)
      ≡ link_findings present (all_links whole)
