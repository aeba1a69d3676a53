-- What is found in the tables of a registry: the rules V1 to V7 of this project's profile, as
-- relations over a map.
use Rattle.std.specs.Prelude.{◌≡◌, ◌≢◌, ◌⊎◌, ℕ, ℤ, ◌<ℤ◌, List, [], Some, None, codes}
use Rattle.std.specs.List.{Contains}
use Rattle.std.specs.Fmt.{decimal}
use Rattle.esc_envelope.specs.declared.kind.Kind.{Kind}
use Rattle.esc_envelope.specs.declared.kind.Kind.TheVariants.{Domain}
use Rattle.esc_envelope.specs.Kinds.{kind_name}
use Rattle.esc_envelope.specs.Watermark.{printed, watermark_of}
use Rattle.esc_tables.specs.KeyName.{KeyName}
use Rattle.esc_tables.specs.ObjectValue.{ObjectValue}
use Rattle.esc_apply.specs.Registry.{ObjectsByKey}
use Rattle.esc_check.specs.Fields.{field_name, created, expires}
use Rattle.esc_check.specs.FindingValue.{FindingValue}
use Rattle.esc_check.specs.LinkValue.{LinkValue}
use Rattle.esc_check.specs.Links.{HasLink}
use Rattle.esc_check.specs.Statuses.{status_words, IsStatusOf}
use Rattle.esc_check.specs.TableMap.{HasCount}

-- V1, as it is reported of a link
abbrev pub missing_target : LinkValue → FindingValue
missing_target l = record {
  code = 1;
  kind = l.from.kind;
  key = l.from.text;
  field = field_name l.field;
  value = l.to.text;
  other = kind_name l.to.kind;
}

-- V1: a link leads to no object
abbrev pub IsMissing : ObjectsByKey → FindingValue → Type 0
IsMissing t f = (l : LinkValue) × HasLink t l × (t l.to ≡ None) × (f ≡ missing_target l)

-- V2, as it is reported of a kind with a declared and a found number of objects
abbrev pub miscounted : Kind → ℕ → ℕ → FindingValue
miscounted kind declared found
    = record {
      code = 2;
      kind = kind;
      key = [];
      field = codes "count";
      value = decimal declared;
      other = decimal found;
    }

-- V2: a kind has another number of objects than declared
abbrev pub IsMiscounted : ObjectsByKey → List (Kind × ℕ) → FindingValue → Type 0
IsMiscounted t counts f = (kind : Kind) × (declared : ℕ) × (n : ℕ)
    × Contains counts (kind, declared) × HasCount t kind n × (n ≢ declared)
    × (f ≡ miscounted kind declared n)

-- V3, as it is reported of an object's status
abbrev pub unknown_status : KeyName → List ℕ → FindingValue
unknown_status k s = record {
  code = 3;
  kind = k.kind;
  key = k.text;
  field = codes "status";
  value = s;
  other = [];
}

-- V3: a status is none of those that the kind's objects may have
abbrev pub IsUnknown : KeyName → ObjectValue → FindingValue → Type 0
IsUnknown k o f = (s : List ℕ) × IsStatusOf k o s × (Contains (status_words k.kind) s → ⊥)
    × (f ≡ unknown_status k s)

-- V4, as it is reported of a domain
abbrev pub mixed_status : KeyName → FindingValue
mixed_status k = record {
  code = 4;
  kind = k.kind;
  key = k.text;
  field = codes "status";
  value = codes "ok";
  other = [];
}

-- V4: a domain has `ok` and a status that is not `ok`
abbrev pub IsMixed : KeyName → ObjectValue → FindingValue → Type 0
IsMixed k o f = (k.kind ≡ Domain) × IsStatusOf k o (codes "ok")
    × ((s : List ℕ) × IsStatusOf k o s × (s ≢ codes "ok")) × (f ≡ mixed_status k)

-- V5, as it is reported of an object's date of creation and the watermark
abbrev pub late : KeyName → List ℕ → List ℕ → FindingValue
late k text shown = record {
  code = 5;
  kind = k.kind;
  key = k.text;
  field = codes "crDate";
  value = text;
  other = shown;
}

-- V5: the date of creation is later than the watermark
abbrev pub IsLate : ℤ → KeyName → ObjectValue → FindingValue → Type 0
IsLate w k o f = (d : ℤ) × (watermark_of (created k o) ≡ Some d) × (w <ℤ d)
    × (f ≡ late k (created k o) (printed w))

-- V6, as it is reported of a domain's dates of expiry and creation
abbrev pub early : KeyName → List ℕ → List ℕ → FindingValue
early k text created_text = record {
  code = 6;
  kind = k.kind;
  key = k.text;
  field = codes "exDate";
  value = text;
  other = created_text;
}

-- V6: the date of expiry is earlier than that of creation
abbrev pub IsEarly : KeyName → ObjectValue → FindingValue → Type 0
IsEarly k o f =
    (e : ℤ) × (d : ℤ) × (watermark_of (expires k o) ≡ Some e)
    × (watermark_of (created k o) ≡ Some d) × (e <ℤ d)
    × (f ≡ early k (expires k o) (created k o))

-- V7, as it is reported of a date in a field
abbrev pub malformed : KeyName → List ℕ → List ℕ → FindingValue
malformed k field text = record {
  code = 7;
  kind = k.kind;
  key = k.text;
  field = field;
  value = text;
  other = [];
}

-- V7: a date is no valid watermark: it has another form, or is no moment of the years 1970 to 2261
abbrev pub IsMalformed : KeyName → List ℕ → List ℕ → FindingValue → Type 0
IsMalformed k field text f = (text ≢ []) × (watermark_of text ≡ None) × (f ≡ malformed k field text)

-- an object's dates break a rule
abbrev pub IsOfDates : ℤ → KeyName → ObjectValue → FindingValue → Type 0
IsOfDates w k o f =
    (IsLate w k o f ⊎ IsEarly k o f)
    ⊎ (IsMalformed k (codes "crDate") (created k o) f
    ⊎ IsMalformed k (codes "exDate") (expires k o) f)

-- an object breaks one of the rules V3 to V7, for which no other object counts
abbrev pub IsOwn : ℤ → KeyName → ObjectValue → FindingValue → Type 0
IsOwn w k o f = (IsUnknown k o f ⊎ IsMixed k o f) ⊎ IsOfDates w k o f

-- the findings in these tables, by a watermark and the declared numbers
abbrev pub IsFinding : ObjectsByKey → ℤ → List (Kind × ℕ) → FindingValue → Type 0
IsFinding t w counts f =
    IsMissing t f ⊎ (IsMiscounted t counts f
    ⊎ ((k : KeyName) × (o : ObjectValue) × (t k ≡ Some o) × IsOwn w k o f))
