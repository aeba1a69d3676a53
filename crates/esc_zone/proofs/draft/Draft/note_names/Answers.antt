use Rattle.std.proofs.Common.{List, ℕ, Option, Some, ◌∷◌, ◌≡◌, ◌∙◌, ap, sym, subst, true, false, Bool, rules}
use Rattle.esc_zone.specs.declared.draft.Settings.{Settings}
use Rattle.esc_zone.specs.Noted.{DraftNotes, draft_notes, with_noted, is_among_names, zone_names, is_in_zone}
use Rattle.esc_zone.specs.Names.{name_eq}
use Rattle.esc_zone.proofs.Noting.{with_both_noted, names_inside, names_outside}
use Rattle.esc_zone.proofs.draft.Draft.note_names.Goals as goal

pub loop-next-preserved : goal.loop-next-preserved
loop-next-preserved c =
    let s = c.args.self.now.settings in
    let at = c.in-Some.above in
    let d : DraftNotes = draft_notes c.loop-next.self in
    let none : List ℕ → Bool = λ q. false in
    let here : is_in_zone c.loop-next.self.settings at ≡ true = search rules in
    let inside = subst (λ (z : Settings). is_in_zone z at ≡ true) c.loop-next.invariant.settings here in
    let With = λ (names : List (List ℕ)). with_noted none (is_among_names names) d in
    record {
      settings = ap (λ (n : DraftNotes). n.settings) c.in_ok-note_place.ensures ∙ c.loop-next.invariant.settings;
      names = ap (with_noted none (is_among_names (zone_names s c.in_ok-next.next))) c.in_ok-note_place.ensures
          ∙ with_both_noted none (name_eq at) none (is_among_names (zone_names s c.in_ok-next.next)) d
          ∙ ap (λ (o : Option (List ℕ)). With (at ∷ zone_names s o)) c.in_ok-next.ensures.name
          ∙ ap With (sym (names_inside s at inside))
          ∙ ap (λ (o : Option (List ℕ)). With (zone_names s o)) (sym c.in-Some.is)
          ∙ c.loop-next.invariant.names;
    }

pub returns-then-not-is_inside : goal.returns-then-not-is_inside
returns-then-not-is_inside c =
    let s = c.args.self.now.settings in
    let at = c.in-Some.above in
    let d : DraftNotes = draft_notes c.loop-next.self in
    let none : List ℕ → Bool = λ q. false in
    let here : is_in_zone c.loop-next.self.settings at ≡ false = search rules in
    let outside = subst (λ (z : Settings). is_in_zone z at ≡ false) c.loop-next.invariant.settings here in
    let With = λ (names : List (List ℕ)). with_noted none (is_among_names names) d in
    ap With (sym (names_outside s at outside))
    ∙ ap (λ (o : Option (List ℕ)). With (zone_names s o)) (sym c.in-Some.is) ∙ c.loop-next.invariant.names

pub returns-in_default : goal.returns-in_default
returns-in_default c =
    let s = c.args.self.now.settings in
    let d : DraftNotes = draft_notes c.loop-next.self in
    let none : List ℕ → Bool = λ q. false in
    ap (λ (o : Option (List ℕ)). with_noted none (is_among_names (zone_names s o)) d) (sym c.in_default.is)
    ∙ c.loop-next.invariant.names
