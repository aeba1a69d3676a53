use Rattle.std.proofs.Common.{List, ℕ, Option, Some, None, ◌≡◌, ◌++◌, ◌∷◌, [], cond, sym, subst}
use Rattle.std.proofs.Common.{refl, ap, ◌∙◌, MatchOption}
use Rattle.esc_apply.specs.ObjectStreams.{Entry}
use Rattle.esc_desk.specs.Places.{later_kind}
use Rattle.esc_desk.proofs.WalkSteps.{last_found}
use Rattle.esc_desk.proofs.pages.next_place.Goals as goal

pub returns-in_ok-bytes_behind-in-Some-clause-place : goal.returns-in_ok-bytes_behind-in-Some-clause-place
returns-in_ok-bytes_behind-in-Some-clause-place c =
    let kind = c.args.kind in
    let behind = c.in_ok-bytes_behind-in-Some.field-0.items in
    let IsPlaced : Option (List ℕ) → Type 0 = λ last.
    MatchOption last ((Some kind ≡ cond c.args.alone None (later_kind kind)) × (behind ≡ []))
    (λ text. (Some kind ≡ Some kind) × (behind ≡ text ++ 0 ∷ [])) in
    let last = last_found c.args.page.now c.in-Some.entry.now (sym c.in-Some.ensures.value) in
    let text = c.as_bytes.ensures.value ∙ ap (λ (e : Entry). e.0.text) c.entry.view_is in
    subst IsPlaced (sym last)
    (refl, c.in_ok-bytes_behind-in-Some.ensures.behind ∙ ap (λ (t : List ℕ). t ++ 0 ∷ []) text)
