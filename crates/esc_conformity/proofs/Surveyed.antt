-- One object more was surveyed.
use Rattle.std.proofs.Common.{◌≡◌, Bool, true, false, ◌&&◌, ◌||◌, List, [], ◌∷◌, ◌++◌, refl, sym, ap, ◌∙◌}
use Rattle.std.specs.List.{list_any}
use Rattle.std.specs.BTreeSet as sorted
use Rattle.std.specs.BTreeSet.{BTreeSet}
use Rattle.std.proofs.lemmas.List.Folds.{list_any-append}
use Rattle.esc_envelope.specs.Kinds.{is_kind}
use Rattle.esc_envelope.specs.declared.kind.Kind.TheVariants.{Registrar}
use Rattle.esc_apply.specs.ObjectStreams.{Entry}
use Rattle.esc_tables.specs.KeyName.{KeyName, key_cmp, key_eq}
use Rattle.esc_tables.specs.KeyLaws.{one_key}
use Rattle.esc_check.specs.Gathered.{is_present}
use Rattle.esc_conformity.specs.Surveys.{reserves}
use Rattle.esc_conformity.proofs.Sets.{present_more, asked_of_either}

or_last : (a b : Bool) → (a || (b || false)) ≡ (a || b)
or_last true b = refl
or_last false true = refl
or_last false false = refl

module _ (old new : BTreeSet KeyName) (es : List Entry) (e : Entry) (q : KeyName) where
  -- the registrars that are there
  pub registrar_more : sorted.contains key_cmp old q ≡ (is_kind q.kind Registrar && is_present es q)
      → sorted.contains key_cmp new q
      ≡ (sorted.contains key_cmp old q || (is_kind e.0.kind Registrar && key_eq q e.0))
      → sorted.contains key_cmp new q ≡ (is_kind q.kind Registrar && is_present (es ++ e ∷ []) q)
  registrar_more had is = is
      ∙ ap (λ b. b || (is_kind e.0.kind Registrar && key_eq q e.0)) had
      ∙ asked_of_either (is_kind q.kind Registrar) (is_kind e.0.kind Registrar) (is_present es q) (key_eq q e.0)
      (λ same. ap (λ (k : KeyName). is_kind k.kind Registrar) (one_key q e.0 same))
      ∙ ap (λ b. is_kind q.kind Registrar && b) (sym (present_more q es e))

  -- the domains that would have an NNDN's name
  pub reserved_more : sorted.contains key_cmp old q ≡ list_any (reserves q) es
      → sorted.contains key_cmp new q ≡ (sorted.contains key_cmp old q || reserves q e)
      → sorted.contains key_cmp new q ≡ list_any (reserves q) (es ++ e ∷ [])
  reserved_more had is = is ∙ ap (λ b. b || reserves q e) had
      ∙ sym (or_last (list_any (reserves q) es) (reserves q e))
      ∙ sym (list_any-append (reserves q) es (e ∷ []))
