use Rattle.std.proofs.Common.{Some, ◌∷◌, ◌∙◌, ap, sym, ◌≡◌, true, false, cond, rules}
use Rattle.std.specs.List.{last_or}
use Rattle.esc_zone.specs.Names.{name_above}
use Rattle.esc_zone.specs.Drafts.{ZoneNotes, zone_notes, is_inside}
use Rattle.esc_zone.proofs.Above.{cuts_from, cuts_inside}
use Rattle.esc_zone.proofs.draft.Draft.cut_of.Goals as goal

pub loop-next-preserved-then-is_cut : goal.loop-next-preserved-then-is_cut
loop-next-preserved-then-is_cut c =
    let z : ZoneNotes = zone_notes c.args.self.now in
    let at = c.in-Some.above in
    let inside : is_inside z at ≡ true = search rules in
    let cut : z.is_delegated at ≡ true = search rules in
    let above = cuts_from z (name_above at) in
    sym (ap (λ o. last_or c.loop-next.found (cuts_from z o)) c.in-Some.is
    ∙ ap (last_or c.loop-next.found) (cuts_inside z at inside ∙ ap (λ b. cond b (at ∷ above) above) cut)
    ∙ ap (λ o. last_or (Some at) (cuts_from z o)) (sym (c.in_ok-next.ensures).name)) ∙ c.loop-next.invariant

pub loop-next-preserved : goal.loop-next-preserved
loop-next-preserved c =
    let z : ZoneNotes = zone_notes c.args.self.now in
    let at = c.in-Some.above in
    let inside : is_inside z at ≡ true = search rules in
    let cut : z.is_delegated at ≡ false = search rules in
    let above = cuts_from z (name_above at) in
    sym (ap (λ o. last_or c.loop-next.found (cuts_from z o)) c.in-Some.is
    ∙ ap (last_or c.loop-next.found) (cuts_inside z at inside ∙ ap (λ b. cond b (at ∷ above) above) cut)
    ∙ ap (λ o. last_or c.loop-next.found (cuts_from z o)) (sym (c.in_ok-next.ensures).name))
    ∙ c.loop-next.invariant
