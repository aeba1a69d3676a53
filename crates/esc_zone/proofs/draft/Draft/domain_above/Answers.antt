use Rattle.std.proofs.Common.{List, ℕ, Option, Some, Bool, ◌≡◌, ◌∙◌, ap, sym, true, false, rules}
use Rattle.std.specs.Prelude.{cond}
use Rattle.std.specs.List.{find}
use Rattle.esc_zone.specs.Names.{name_above}
use Rattle.esc_zone.specs.Noted.{DraftNotes, draft_notes, is_domain_noted, zone_names, is_in_zone}
use Rattle.esc_zone.proofs.Noting.{names_inside}
use Rattle.esc_zone.proofs.draft.Draft.domain_above.Goals as goal

pub loop-next-preserved : goal.loop-next-preserved
loop-next-preserved c =
    let d : DraftNotes = draft_notes c.args.self.now in
    let s = c.args.self.now.settings in
    let at = c.in-Some.above in
    let test = is_domain_noted d in
    let inside : is_in_zone s at ≡ true = search rules in
    let none : test at ≡ false = search rules in
    let In = λ (o : Option (List ℕ)). find test (zone_names s o) in
    ap In c.in_ok-next.ensures.name
    ∙ ap (λ (b : Bool). cond b (Some at) (In (name_above at))) (sym none)
    ∙ ap (find test) (sym (names_inside s at inside)) ∙ ap In (sym c.in-Some.is) ∙ c.loop-next.invariant

pub returns-then-is_domain : goal.returns-then-is_domain
returns-then-is_domain c =
    let d : DraftNotes = draft_notes c.args.self.now in
    let s = c.args.self.now.settings in
    let at = c.in-Some.above in
    let test = is_domain_noted d in
    let inside : is_in_zone s at ≡ true = search rules in
    let found : test at ≡ true = search rules in
    let In = λ (o : Option (List ℕ)). find test (zone_names s o) in
    ap (λ (b : Bool). cond b (Some at) (In (name_above at))) (sym found)
    ∙ ap (find test) (sym (names_inside s at inside)) ∙ ap In (sym c.in-Some.is) ∙ c.loop-next.invariant
