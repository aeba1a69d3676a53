-- What a second walk over the objects of a registry keeps, by the survey of all. The crate's own
-- functions say this to one another; `Flaws` alone says what is found.
use Rattle.std.specs.Prelude.{◌≡◌, ℕ, Bool, false, ◌&&◌, List, map, filter, Option, option_map}
use Rattle.std.specs.Prelude.{nat_lt}
use Rattle.std.specs.List.{flat_map}
use Rattle.std.specs.Option.{option_to_list}
use Rattle.std.specs.Ordering.{nat_cmp}
use Rattle.std.specs.BTreeSet as sorted
use Rattle.std.specs.BTreeSet.{BTreeSet}
use Rattle.esc_tables.specs.KeyName.{KeyName, key_cmp}
use Rattle.esc_apply.specs.ObjectStreams.{Entry}
use Rattle.esc_check.specs.Gathered.{is_present}
use Rattle.esc_conformity.specs.declared.examiner.Examiner.{Examiner}
use Rattle.esc_conformity.specs.declared.roid.Holder.{Holder}
use Rattle.esc_conformity.specs.declared.rule.Rule.{Rule}
use Rattle.esc_conformity.specs.declared.rule.Rule.TheVariants.{Registrars, Nndns, Roids}
use Rattle.esc_conformity.specs.declared.rule.Rule.TheVariants.{Required, Outside, Digests}
use Rattle.esc_conformity.specs.declared.rule.Rule.TheVariants.{Addresses}
use Rattle.esc_conformity.specs.declared.survey.Survey.{Survey}
use Rattle.esc_conformity.specs.Digests.{has_wrong_ds}
use Rattle.esc_conformity.specs.Flaws.{has_stranger, is_doubled, is_outside, flaw_of, roid_of}
use Rattle.esc_conformity.specs.Found.{keys_by}
use Rattle.esc_conformity.specs.HostAddresses.{has_wrong_address}
use Rattle.esc_conformity.specs.Marks.{mark_of}
use Rattle.esc_conformity.specs.Repeats.{occurrences}
use Rattle.esc_conformity.specs.Required.{lacks_required}

-- whether an object breaks a rule, if these registrars and these domains are there; of ROIDs it is
-- said in the end
abbrev pub is_found : (KeyName → Bool) → (KeyName → Bool) → Rule → Option (List ℕ) → Entry → Bool
is_found registrars domains Registrars tld e = has_stranger registrars e.1
is_found registrars domains Nndns tld e = is_doubled domains e.0
is_found registrars domains Roids tld e = false
is_found registrars domains Required tld e = lacks_required e
is_found registrars domains Outside tld e = is_outside tld e.0
is_found registrars domains Digests tld e = has_wrong_ds e
is_found registrars domains Addresses tld e = has_wrong_address e

-- the keys of those that do among some, where `whole` are all objects
abbrev pub found_among : Rule → Option (List ℕ) → List Entry → List Entry → List KeyName
found_among rule tld whole es =
    flat_map (λ e. flaw_of (is_found (is_present whole) (is_present whole) rule tld e) e.0) es

-- an object that has a ROID, by the two
abbrev pub holder_of : Entry → List Holder
holder_of e = option_to_list (option_map (λ r. record { roid = r; key = e.0 }) (roid_of e))

-- whether the mark of its ROID is one of these
abbrev pub is_suspect : BTreeSet ℕ → Holder → Bool
is_suspect marks h = sorted.contains nat_cmp marks (mark_of h.roid)

-- those of these objects of which it is
abbrev pub suspects_of : BTreeSet ℕ → List Entry → List Holder
suspects_of marks es = filter (is_suspect marks) (flat_map holder_of es)

-- whether several of these have a ROID
abbrev pub is_held_twice : List Holder → KeyName → Bool
is_held_twice hs r = nat_lt 1 (occurrences key_cmp r (map (λ (h : Holder). h.roid) hs))

-- the keys of those that have such a one
abbrev pub sharing_keys : List Holder → List KeyName
sharing_keys hs = flat_map (λ (h : Holder). flaw_of (is_held_twice hs h.roid) h.key) hs

-- some of all objects were examined: it is kept what was found, which domains of an NNDN's name came,
-- and which objects have a ROID that may be another's
pub record HasExamined (tld : Option (List ℕ)) (whole : List Entry) (s : Survey) (es : List Entry)
    (x : Examiner) : Type 0 where
  pub found : (rule : Rule) → keys_by x.flaws rule ≡ found_among rule tld whole es
  pub taken : (q : KeyName) → sorted.contains key_cmp x.taken q
      ≡ (sorted.contains key_cmp s.reserved q && is_present es q)
  pub suspects : x.suspects.items ≡ suspects_of s.marks.repeated es
