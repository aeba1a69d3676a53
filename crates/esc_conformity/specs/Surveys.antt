-- What a first walk over the objects of a registry keeps of them.
use Rattle.std.specs.Prelude.{◌≡◌, Bool, ◌&&◌, List}
use Rattle.std.specs.List.{list_any}
use Rattle.std.specs.Ordering.{nat_cmp}
use Rattle.std.specs.BTreeSet as sorted
use Rattle.esc_envelope.specs.Kinds.{is_kind}
use Rattle.esc_envelope.specs.declared.kind.Kind.TheVariants.{Registrar, Domain, Nndn}
use Rattle.esc_tables.specs.KeyName.{KeyName, key_cmp, key_eq}
use Rattle.esc_tables.specs.TableRow.{key_named}
use Rattle.esc_apply.specs.ObjectStreams.{Entry}
use Rattle.esc_check.specs.Gathered.{is_present}
use Rattle.esc_conformity.specs.declared.survey.Survey.{Survey}
use Rattle.esc_conformity.specs.Marks.{marks_of}
use Rattle.esc_conformity.specs.Repeats.{AreRepeatsIn}

-- whether an object is an NNDN, and a domain of its name would have this key
abbrev pub reserves : KeyName → Entry → Bool
reserves q e = is_kind e.0.kind Nndn && key_eq q (key_named Domain e.0.text)

-- these objects were surveyed: it is kept which registrars are there, which domains would have an
-- NNDN's name, and which marks of ROIDs came, and came again
pub record IsSurveyOf (es : List Entry) (s : Survey) : Type 0 where
  pub registrars : (q : KeyName) → sorted.contains key_cmp s.registrars q
      ≡ (is_kind q.kind Registrar && is_present es q)
  pub reserved : (q : KeyName) → sorted.contains key_cmp s.reserved q ≡ list_any (reserves q) es
  pub marks : AreRepeatsIn nat_cmp (marks_of es) s.marks
