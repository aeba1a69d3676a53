use Rattle.std.proofs.Common.{◌≡◌, rules, ◌++◌, ℕ, List, length, get_or, Option, Some, sym, ap, subst}
use Rattle.std.proofs.Common.{◌∙◌, append-nil}
use Rattle.std.specs.BTreeMap.{get}
use Rattle.std.specs.List.{All, Contains}
use Rattle.std.specs.Map.{keys_of}
use Rattle.std.proofs.lemmas.List.Elements.{All-nil, All-push, All-head, All-rest}
use Rattle.std.proofs.lemmas.Map.Views.{All-found}
use Rattle.esc_envelope.specs.declared.place.Place.{Place}
use Rattle.esc_manifest.specs.declared.row.MRow.{MRow}
use Rattle.esc_chain.specs.declared.gap.GapLine.{GapLine}
use Rattle.esc_chain.specs.Chain.{Rows}
use Rattle.esc_chain.specs.Gap.{IsGapLineAt, AreRising, places_of}
use Rattle.esc_chain.specs.Walk.{IsUsedAt}
use Rattle.esc_chain.specs.Stops.{IsUnheldEntry, line_by}
use Rattle.esc_chain.proofs.PlaceLines.{row_in, line_told, line_place}
use Rattle.esc_chain.proofs.PlaceMaps.{place_cmp, place_cmp_total}
use Rattle.esc_chain.proofs.LineList.{places_more, keys_rising, keys_all}
use Rattle.esc_chain.proofs.gap_lines.gaps_at.Goals.{After-copied-used}
use Rattle.esc_chain.proofs.gap_lines.gaps_at.Goals as goal

abbrev IsEntry : List MRow → Rows → Place × Option ℕ → Type 0
IsEntry m h e = IsUnheldEntry m h e.0 (length m) (Some e.1)

pub loop-place-init : goal.loop-place-init
loop-place-init c =
    let m = c.args.manifest.now in
    let h = c.args.held.now in
    let unheld = c.in_ok-unheld.unheld in
    let left = c.into_iter-place-iterator.result in
    let all : left ≡ unheld.entries = search rules in
    let entry : All (IsEntry m h) unheld.entries = λ k d lt.
    let e = get_or unheld.entries k d in
    let found = All-found place_cmp_total unheld c.iter-place-items.ensures.ordered k d lt in
    subst (IsUnheldEntry m h e.0 (length m)) found (c.in_ok-unheld.ensures e.0) in
    record {
      told = λ t are. subst (All (IsGapLineAt m h t)) (sym c.new-lines.ensures.items) (All-nil (IsGapLineAt m h t));
      entries = subst (All (IsEntry m h)) (sym all) entry;
      in_order = ap (λ (l : List GapLine). places_of l ++ keys_of left) c.new-lines.ensures.items;
    }

-- the used row of the place of the turn
used_here : (c : After-copied-used)
    → IsUsedAt c.args.manifest.now c.args.held.now c.in-Some.place.now c.copied-used.result
used_here c =
    let p = c.in-Some.place.now in
    let found : c.copied-used.result ≡ get place_cmp c.in_ok-ways.ways.used p =
    c.copied-used.ensures ∙ c.get.ensures.value in
    subst (IsUsedAt c.args.manifest.now c.args.held.now p) (sym found) (c.in_ok-ways.ensures.used p)

pub line_of-requires-clause-used : goal.line_of-requires-clause-used
line_of-requires-clause-used c =
    let used = used_here (goal.at.line_of-requires-clause-used c).After-copied-used in
    row_in c.args.manifest.now c.args.held.now
    c.args.moment c.in_ok-ways.ways c.in-Some.place.now _ c.requires c.in_ok-ways.ensures used

pub loop-place-preserved : goal.loop-place-preserved
loop-place-preserved c =
    let m = c.args.manifest.now in
    let h = c.args.held.now in
    let ways = c.in_ok-ways.ways in
    let p = c.in-Some.place.now in
    let a = c.in-Some.greatest.now in
    let used = used_here (goal.at.loop-place-preserved c).After-copied-used in
    let known = c.loop-place.invariant in
    let lines = c.loop-place.lines.items in
    let line = c.in_ok-line.line in
    let left = c.loop-place.place-iterator in
    let rest = c.next.new.self in
    let step = c.in-Some.ensures.steps in
    let own : line ≡ line_by m ways p c.copied-used.result a = c.in_ok-line.ensures in
    let place : line.place ≡ p = ap (λ (l : GapLine). l.place) own ∙ line_place m ways p c.copied-used.result a in
    let entry : IsEntry m h (p, a) =
    All-head (IsEntry m h) (p, a) rest (subst (All (IsEntry m h)) step known.entries) in
    record {
      told = λ t are.
          let told = line_told m h t ways p c.copied-used.result a c.requires are entry.0 used entry.1 in
          subst (All (IsGapLineAt m h t)) (sym c.in_ok-push.ensures.items)
          (All-push (IsGapLineAt m h t) lines line (known.told t are) (subst (IsGapLineAt m h t) (sym own) told));
      entries = All-rest (IsEntry m h) (p, a) rest left step known.entries;
      in_order = ap (λ (l : List GapLine). places_of l ++ keys_of rest) c.in_ok-push.ensures.items
          ∙ places_more lines line
          p a (keys_of c.into_iter-place-iterator.result) left rest place step known.in_order;
    }

pub returns : goal.returns
returns c =
    let unheld = c.in_ok-unheld.unheld in
    let lines = c.loop-place.lines.items in
    let all : c.into_iter-place-iterator.result ≡ unheld.entries = search rules in
    let places : places_of lines ≡ keys_of unheld.entries =
    sym (append-nil _)
    ∙ ap (λ (l : List (Place × Option ℕ)). places_of lines ++ keys_of l) (sym c.in-None.ensures.steps.0)
    ∙ c.loop-place.invariant.in_order ∙ ap keys_of all in
    let listed = keys_all c.args.manifest.now
    c.args.held.now unheld c.iter-place-items.ensures.ordered c.in_ok-unheld.ensures in
    record {
      told = c.loop-place.invariant.told c.args.moment c.in_ok-ways.ensures;
      all = λ p at. subst (λ (ps : List Place). Contains ps p) (sym places) (listed p at);
      rising = subst AreRising (sym places) (keys_rising unheld c.iter-place-items.ensures.ordered);
    }
