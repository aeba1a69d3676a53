-- The objects that break a rule of the minimum tests, each by itself and the registry of all
-- (RFC 9022, section 8, and this project's profile).
use Rattle.std.specs.Prelude.{ℕ, Bool, true, false, not, ◌&&◌, ◌||◌, List, [], ◌∷◌, codes}
use Rattle.std.specs.Prelude.{Option, None, Some, ◌-◌, drop, map, length, filter, nat_lt}
use Rattle.std.specs.Prelude.{if◌then◌else◌, slice_index, ◌==◌}
use Rattle.std.specs.Char.{to_ascii_lowercase}
use Rattle.std.specs.List.{flat_map, list_any}
use Rattle.std.specs.Option.{option_map_or}
use Rattle.std.specs.Str.{bytes_eq}
use Rattle.esc_envelope.specs.Kinds.{is_kind}
use Rattle.esc_envelope.specs.declared.kind.Kind.TheVariants.{Registrar, Domain, Nndn}
use Rattle.esc_tables.specs.KeyName.{KeyName, key_eq}
use Rattle.esc_tables.specs.ObjectValue.{RowValue, ObjectValue}
use Rattle.esc_tables.specs.TableRow.{key_named}
use Rattle.esc_apply.specs.ObjectStreams.{Entry}
use Rattle.esc_check.specs.Fields.{cell}
use Rattle.esc_check.specs.Gathered.{is_empty_text, is_present}
use Rattle.esc_conformity.specs.declared.rule.Rule.{Rule}
use Rattle.esc_conformity.specs.declared.rule.Rule.TheVariants.{Registrars, Nndns, Roids}
use Rattle.esc_conformity.specs.declared.rule.Rule.TheVariants.{Required, Outside, Digests}
use Rattle.esc_conformity.specs.declared.rule.Rule.TheVariants.{Addresses}
use Rattle.esc_conformity.specs.Digests.{has_wrong_ds}
use Rattle.esc_conformity.specs.HostAddresses.{has_wrong_address}
use Rattle.esc_conformity.specs.Required.{lacks_required}

-- the name of a rule
abbrev pub rule_name : Rule → List ℕ
rule_name Registrars = codes "registrars"
rule_name Nndns = codes "nndns"
rule_name Roids = codes "roids"
rule_name Required = codes "required"
rule_name Outside = codes "outside"
rule_name Digests = codes "digests"
rule_name Addresses = codes "addresses"

-- ---- registrars

-- whether a text names no registrar, and isn't empty, if these are the keys
abbrev pub is_stranger : (KeyName → Bool) → List ℕ → Bool
is_stranger present text = not (is_empty_text text) && not (present (key_named Registrar text))

-- whether a row names a registrar that isn't there: the one that created or updated the object, or
-- that asked for its transfer or acts on it
abbrev pub names_stranger : (KeyName → Bool) → RowValue → Bool
names_stranger present r = is_stranger present (cell (codes "crRr") r)
    || (is_stranger present (cell (codes "upRr") r)
    || (is_stranger present (cell (codes "reRr") r) || is_stranger present (cell (codes "acRr") r)))

-- whether a row of an object does
abbrev pub has_stranger : (KeyName → Bool) → ObjectValue → Bool
has_stranger present o = names_stranger present o.parent
    || list_any (names_stranger present) o.children

-- ---- names

-- whether an NNDN has a domain's name
abbrev pub is_doubled : (KeyName → Bool) → KeyName → Bool
is_doubled present k = is_kind k.kind Nndn && present (key_named Domain k.text)

-- whether a name ends with a dot and the TLD, whatever its case
abbrev pub is_below_tld : List ℕ → List ℕ → Bool
is_below_tld tld name = nat_lt (length tld) (length name)
    && ((slice_index name (length name - length tld - 1) == 46)
    && bytes_eq (map to_ascii_lowercase (drop (length name - length tld) name))
    (map to_ascii_lowercase tld))

-- whether a domain or an NNDN isn't below the TLD, if that is known
abbrev pub is_outside : Option (List ℕ) → KeyName → Bool
is_outside None k = false
is_outside (Some tld) k = (is_kind k.kind Domain || is_kind k.kind Nndn)
    && not (is_below_tld tld k.text)

-- ---- ROIDs

-- the ROID of an object, as a key of its kind, if it has one
abbrev pub roid_of : Entry → Option KeyName
roid_of e = if is_empty_text (cell (codes "roid") e.1.parent) then None
    else Some (record { kind = e.0.kind; text = cell (codes "roid") e.1.parent })

-- whether an object has this ROID
abbrev pub has_roid : KeyName → Entry → Bool
has_roid r e = option_map_or (λ q. key_eq q r) (roid_of e) false

-- whether a ROID is that of several objects of its kind
abbrev pub is_shared : List Entry → KeyName → Bool
is_shared es r = nat_lt 1 (length (filter (has_roid r) es))

-- whether an object has such a one
abbrev pub shares_roid : List Entry → Entry → Bool
shares_roid es e = option_map_or (is_shared es) (roid_of e) false

-- ---- all rules

-- whether an object breaks a rule, in a registry of this TLD, if that is known, and these objects
abbrev pub breaks : Rule → Option (List ℕ) → List Entry → Entry → Bool
breaks Registrars tld es e = has_stranger (is_present es) e.1
breaks Nndns tld es e = is_doubled (is_present es) e.0
breaks Roids tld es e = shares_roid es e
breaks Required tld es e = lacks_required e
breaks Outside tld es e = is_outside tld e.0
breaks Digests tld es e = has_wrong_ds e
breaks Addresses tld es e = has_wrong_address e

-- its key, if it does
abbrev pub flaw_of : Bool → KeyName → List KeyName
flaw_of true k = k ∷ []
flaw_of false k = []

-- the keys of the objects that do, in order
abbrev pub flaws : Rule → Option (List ℕ) → List Entry → List KeyName
flaws rule tld es = flat_map (λ e. flaw_of (breaks rule tld es e) e.0) es
