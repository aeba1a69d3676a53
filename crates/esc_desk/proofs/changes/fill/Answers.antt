use Rattle.std.proofs.Common.{refl, sym, subst}
use Rattle.std.proofs.lemmas.Option.{IfSome_then}
use Rattle.esc_store.specs.StandingLaws.{part_then, part_was, was_clean}
use Rattle.esc_desk.specs.Edits.{books_edited, listed_more, receipted, stored, IsAtHand}
use Rattle.esc_desk.proofs.EditSteps.{stays_put, timed_bodies}
use Rattle.esc_desk.proofs.changes.fill.Goals as goal

pub returns-clause-fills : goal.returns-clause-fills
returns-clause-fills g c = λ clean k from rest stood.
    let edit = c.args.edit in
    let first = c.in_ok-number.ensures.part in
    let others = part_then (part_then c.in_ok-list_rows.ensures.part c.in_ok-store_body.ensures.part)
    c.in_ok-set_moment.ensures.part in
    let parts = part_then first others in
    let honest = was_clean c.in_ok-work.ensures.goes_on.survives clean in
    let books = parts.makes honest k k rest in
    let tables = parts.holds k.registry stood in
    let before = listed_more edit.listing (receipted edit.receipt k) in
    let hand = subst (IsAtHand c.at_hand.result)
    (sym (timed_bodies edit.moment (stored edit.body before)))
    (c.at_hand.ensures c.requires.read before) in
    record {
      filled = c.in_ok-work.ensures.filled k k (books_edited edit k) from (stays_put edit k) hand books tables;
      result = record {
        worked = c.in_ok-work.ensures.worked clean k k (books_edited edit k) from hand books tables;
        numbered = IfSome_then edit.receipt c.in_ok-number.ensures.numbered
            (λ r numbered. (numbered (part_was others honest) k k rest, c.in_ok-number.ensures.room));
      };
      plan = refl;
    }
