-- One object more was examined.
use Rattle.std.proofs.Common.{◌≡◌, ℕ, Bool, ◌&&◌, ◌||◌, List, [], ◌∷◌, ◌++◌, filter}
use Rattle.std.proofs.Common.{Option, refl, sym, ap, ◌∙◌, append-nil, codes}
use Rattle.std.specs.List.{flat_map, list_any}
use Rattle.std.specs.BTreeSet as sorted
use Rattle.std.specs.BTreeSet.{BTreeSet}
use Rattle.std.proofs.lemmas.Grind.{flat_map-append}
use Rattle.std.proofs.lemmas.List.Elements.{filter-append}
use Rattle.esc_envelope.specs.declared.kind.Kind.TheVariants.{Registrar}
use Rattle.esc_apply.specs.ObjectStreams.{Entry, InOrder}
use Rattle.esc_tables.specs.KeyName.{KeyName, key_cmp, key_eq}
use Rattle.esc_tables.specs.ObjectValue.{RowValue, ObjectValue}
use Rattle.esc_tables.specs.TableRow.{key_named}
use Rattle.esc_check.specs.Fields.{cell}
use Rattle.esc_check.specs.Gathered.{is_present}
use Rattle.esc_conformity.specs.declared.examiner.Examiner.{Examiner}
use Rattle.esc_conformity.specs.declared.rule.Rule.{Rule}
use Rattle.esc_conformity.specs.declared.rule.Rule.TheVariants.{Registrars, Nndns, Roids}
use Rattle.esc_conformity.specs.declared.rule.Rule.TheVariants.{Required, Outside, Digests}
use Rattle.esc_conformity.specs.declared.rule.Rule.TheVariants.{Addresses}
use Rattle.esc_conformity.specs.declared.survey.Survey.{Survey}
use Rattle.esc_conformity.specs.Examined.{HasExamined, is_found, holder_of, is_suspect}
use Rattle.esc_conformity.specs.Flaws.{is_stranger, names_stranger, has_stranger, flaw_of}
use Rattle.esc_conformity.specs.Found.{keys_by}
use Rattle.esc_conformity.specs.Surveys.{IsSurveyOf}
use Rattle.esc_conformity.proofs.Domains.{doubled_is, taken_more}

module _ (p r : KeyName → Bool)
    (same : (text : List ℕ) → p (key_named Registrar text) ≡ r (key_named Registrar text)) where
  stranger_same : (text : List ℕ) → is_stranger p text ≡ is_stranger r text
  stranger_same text = ap (λ b. is_stranger (λ k. b) text) (same text)

  row_same : (row : RowValue) → names_stranger p row ≡ names_stranger r row
  row_same row = λ i.
      stranger_same (cell (codes "crRr") row) i
      || (stranger_same (cell (codes "upRr") row) i
      || (stranger_same (cell (codes "reRr") row) i
      || stranger_same (cell (codes "acRr") row) i))

  -- who names a stranger is the same, where the registrars are the same
  has_same : (o : ObjectValue) → has_stranger p o ≡ has_stranger r o
  has_same o = λ i. row_same o.parent i || list_any (λ row. row_same row i) o.children

-- what is found in one object more
flat_more : {X A : Type 0} (f : X → List A) (xs : List X) (x : X)
    → flat_map f xs ++ f x ≡ flat_map f (xs ++ x ∷ [])
flat_more f xs x = sym (flat_map-append f xs (x ∷ []) ∙ ap (λ l. flat_map f xs ++ l) (append-nil (f x)))

module _ (s : Survey) (old new : BTreeSet KeyName) (es left : List Entry) (e : Entry)
    (ordered : InOrder (es ++ e ∷ left)) (survey : IsSurveyOf (es ++ e ∷ left) s)
    (had : (q : KeyName) → sorted.contains key_cmp old q
    ≡ (sorted.contains key_cmp s.reserved q && is_present es q))
    (is : (q : KeyName) → sorted.contains key_cmp new q ≡ (sorted.contains key_cmp old q
    || (sorted.contains key_cmp s.reserved e.0 && key_eq q e.0))) where
  -- what is found by what is known so far is what is found by all
  found_is : (rule : Rule) (tld : Option (List ℕ))
      → is_found (sorted.contains key_cmp s.registrars) (sorted.contains key_cmp new) rule tld e
      ≡ is_found (is_present (es ++ e ∷ left)) (is_present (es ++ e ∷ left)) rule tld e
  found_is Registrars tld = has_same (sorted.contains key_cmp s.registrars) (is_present (es ++ e ∷ left))
      (λ text. survey.registrars (key_named Registrar text)) e.1
  found_is Nndns tld = doubled_is s old new es left e ordered survey had is
  found_is Roids tld = refl
  found_is Required tld = refl
  found_is Outside tld = refl
  found_is Digests tld = refl
  found_is Addresses tld = refl

-- one object more was examined
pub examined_more : (tld : Option (List ℕ)) (s : Survey) (es left : List Entry) (e : Entry)
    (x y : Examiner) → InOrder (es ++ e ∷ left) → IsSurveyOf (es ++ e ∷ left) s
    → HasExamined tld (es ++ e ∷ left) s es x
    → ((q : KeyName) → sorted.contains key_cmp y.taken q ≡ (sorted.contains key_cmp x.taken q
    || (sorted.contains key_cmp s.reserved e.0 && key_eq q e.0)))
    → y.suspects.items ≡ x.suspects.items ++ filter (is_suspect s.marks.repeated) (holder_of e)
    → ((rule : Rule) → keys_by y.flaws rule ≡ keys_by x.flaws rule ++ flaw_of
    (is_found (sorted.contains key_cmp s.registrars) (sorted.contains key_cmp y.taken) rule tld e) e.0)
    → HasExamined tld (es ++ e ∷ left) s (es ++ e ∷ []) y
examined_more tld s es left e x y ordered survey had taken suspects found = record {
  found = λ rule.
      found rule
      ∙ ap (λ b. keys_by x.flaws rule ++ flaw_of b e.0)
      (found_is s x.taken y.taken es left e ordered survey had.taken taken rule tld)
      ∙ ap (λ l. l ++ flaw_of (is_found (is_present (es ++ e ∷ left))
      (is_present (es ++ e ∷ left)) rule tld e) e.0) (had.found rule)
      ∙ flat_more (λ (d : Entry). flaw_of (is_found (is_present (es ++ e ∷ left))
      (is_present (es ++ e ∷ left)) rule tld d) d.0) es e;
  taken = taken_more s x.taken y.taken es left e ordered survey had.taken taken;
  suspects =
      suspects
      ∙ ap (λ l. l ++ filter (is_suspect s.marks.repeated) (holder_of e)) had.suspects
      ∙ sym (filter-append (is_suspect s.marks.repeated) (flat_map holder_of es) (holder_of e))
      ∙ ap (filter (is_suspect s.marks.repeated)) (flat_more holder_of es e);
}
