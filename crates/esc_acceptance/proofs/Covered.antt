-- The fields that one object more has, and lacks.
use Rattle.std.proofs.Common.{◌≡◌, Bool, true, false, cond, ◌&&◌, List, [], ◌∷◌, ◌++◌, filter, inl, inr}
use Rattle.std.proofs.Common.{refl, sym, ap, subst, ◌∙◌, lit<, Decides}
use Rattle.std.specs.List.{Contains, list_all}
use Rattle.std.proofs.lemmas.List.Elements.{All-contains, filter_passes}
use Rattle.std.proofs.lemmas.List.Folds.{list_all-append}
use denote.Enum.Bare.{sameb, same_true, true_same}
use Rattle.esc_apply.specs.ObjectStreams.{Entry}
use Rattle.esc_bundle.specs.ElementLaws.{nothing_in, first_in, later, first_or_later}
use Rattle.esc_acceptance.specs.declared.coverage.Coverage.{Coverage}
use Rattle.esc_acceptance.specs.declared.guide.Guide.{Guide}
use Rattle.esc_acceptance.specs.declared.guide.Guide.TheVariants.{RegistrarCreation, ContactSponsor}
use Rattle.esc_acceptance.specs.declared.guide.Guide.TheVariants.{ContactCreation, ContactStatus}
use Rattle.esc_acceptance.specs.declared.guide.Guide.TheVariants.{HostSponsor, HostCreation}
use Rattle.esc_acceptance.specs.declared.guide.Guide.TheVariants.{HostStatus, DomainSponsor}
use Rattle.esc_acceptance.specs.declared.guide.Guide.TheVariants.{DomainRegistrant, DomainTable}
use Rattle.esc_acceptance.specs.declared.guide.Guide.TheVariants.{DomainCreation, DomainExpiry}
use Rattle.esc_acceptance.specs.declared.guide.Guide.TheVariants.{DomainContact, DomainHost}
use Rattle.esc_acceptance.specs.declared.guide.Guide.TheVariants.{DomainStatus, NndnTable}
use Rattle.esc_acceptance.specs.contracts.guide.Guide.{the_type}
use Rattle.esc_acceptance.specs.Guides.{guides, has_guide, IsCoverageOf}

-- each guide is one of all
every_guide : (g : Guide) → Contains guides g
unfolding guides
every_guide RegistrarCreation = (0, lit< tt, refl)
every_guide ContactSponsor = (1, lit< tt, refl)
every_guide ContactCreation = (2, lit< tt, refl)
every_guide ContactStatus = (3, lit< tt, refl)
every_guide HostSponsor = (4, lit< tt, refl)
every_guide HostCreation = (5, lit< tt, refl)
every_guide HostStatus = (6, lit< tt, refl)
every_guide DomainSponsor = (7, lit< tt, refl)
every_guide DomainRegistrant = (8, lit< tt, refl)
every_guide DomainTable = (9, lit< tt, refl)
every_guide DomainCreation = (10, lit< tt, refl)
every_guide DomainExpiry = (11, lit< tt, refl)
every_guide DomainContact = (12, lit< tt, refl)
every_guide DomainHost = (13, lit< tt, refl)
every_guide DomainStatus = (14, lit< tt, refl)
every_guide NndnTable = (15, lit< tt, refl)

module _ {X : Type 0} (p : X → Bool) where
  -- what is chosen passes the test
  passes_it : (xs : List X) (x : X) → Contains (filter p xs) x → p x ≡ true
  passes_it xs x there = All-contains (λ y. p y ≡ true) (filter p xs) x (filter_passes p xs) there

  -- what passes it is chosen
  is_chosen : (xs : List X) (x : X) → Contains xs x → p x ≡ true → Contains (filter p xs) x
  is_chosen [] x there passes = absurd (nothing_in x there)
  is_chosen (y ∷ xs) x there passes = elim (first_or_later y x xs there) [
    | inl same ↦ subst (λ b. Contains (cond b (y ∷ filter p xs) (filter p xs)) x)
        (sym (ap p same ∙ passes)) (subst (Contains (y ∷ filter p xs)) same (first_in y (filter p xs)))
    | inr behind ↦ kept (p y) (is_chosen xs x behind passes)
  ]
    where
      kept : (b : Bool) → Contains (filter p xs) x → Contains (cond b (y ∷ filter p xs) (filter p xs)) x
      kept true h = later y x (filter p xs) h
      kept false h = h

-- chosen by two tests, one after the other
chosen_by_both : {X : Type 0} (p q r : X → Bool) → ((x : X) → r x ≡ (p x && q x))
    → (xs : List X) → filter q (filter p xs) ≡ filter r xs
chosen_by_both p q r both [] = refl
chosen_by_both p q r both (x ∷ xs) =
    first (p x)
    ∙ by (p x) (q x) (chosen_by_both p q r both xs) ∙ ap (λ b. cond b (x ∷ filter r xs) (filter r xs)) (sym (both x))
  where
    by : (b d : Bool) → filter q (filter p xs) ≡ filter r xs
        → cond b (cond d (x ∷ filter q (filter p xs)) (filter q (filter p xs))) (filter q (filter p xs))
        ≡ cond (b && d) (x ∷ filter r xs) (filter r xs)
    by true true h = ap (λ l. x ∷ l) h
    by true false h = h
    by false d h = h

    first : (b : Bool) → filter q (cond b (x ∷ filter p xs) (filter p xs))
        ≡ cond b (cond (q x) (x ∷ filter q (filter p xs)) (filter q (filter p xs))) (filter q (filter p xs))
    first true = refl
    first false = refl

and_true : (b : Bool) → (b && true) ≡ b
and_true true = refl
and_true false = refl

-- whether these objects and one more have a field
had_by_more : (g : Guide) (es : List Entry) (e : Entry)
    → list_all (has_guide g) (es ++ e ∷ []) ≡ (list_all (has_guide g) es && has_guide g e)
had_by_more g es e = list_all-append (has_guide g) es (e ∷ [])
    ∙ ap (λ b. list_all (has_guide g) es && b) (and_true (has_guide g e))

-- one object more was taken in
pub covered_more : (es : List Entry) (e : Entry) (old new : Coverage) → IsCoverageOf es old
    → new.common.items ≡ filter (λ g. has_guide g e) old.common.items
    → IsCoverageOf (es ++ e ∷ []) new
covered_more es e old new had common = record {
  common = common ∙ ap (filter (λ g. has_guide g e)) had.common
      ∙ chosen_by_both (λ g. list_all (has_guide g) es) (λ g. has_guide g e)
      (λ g. list_all (has_guide g) (es ++ e ∷ [])) (λ g. had_by_more g es e) guides;
}

-- two guides are compared by which they are
pub guides_decide : (a b : Guide) → Decides (sameb the_type a b) (a ≡ b)
guides_decide a b = (same_true the_type tt a b, true_same the_type a b)

-- a guide is among those that are chosen of all exactly where it passes the test
pub chosen_decides : (p : Guide → Bool) (g : Guide) → Decides (p g) (Contains (filter p guides) g)
chosen_decides p g = (is_chosen p guides g (every_guide g), passes_it p guides g)
