use mathlib.Core.Path.{fun_ext}
use Rattle.std.proofs.Common.{List, ℕ, Bool, ◌≡◌, ◌+◌, ◌∙◌, ap, take, string_bytes}
use Rattle.std.specs.Prelude.{◌||◌}
use Rattle.std.specs.List.{list_any}
use Rattle.esc_zone.specs.Delegations.{texts_of}
use Rattle.esc_zone.specs.Noted.{DraftNotes, draft_notes, with_noted, is_server_at, is_above_use}
use Rattle.esc_zone.specs.Noted.{is_server_among, is_above_uses}
use Rattle.esc_zone.proofs.Noting.{with_both_noted, any_step}
use Rattle.esc_zone.proofs.draft.Draft.note_uses.Goals as goal

pub loop-text-preserved : goal.loop-text-preserved
loop-text-preserved c =
    let d : DraftNotes = draft_notes c.args.self.now in
    let s = c.args.self.now.settings in
    let name = c.args.name.now in
    let text = c.as_str.result.now in
    let texts = c.args.texts.now in
    let i = c.loop-text.text-index in
    let front = texts_of (take i texts) in
    let next = texts_of (take (i + 1) texts) in
    let Step : (f : List ℕ → Bool) → (list_any f front || f text) ≡ list_any f next = λ f.
    ap (λ (t : List ℕ). list_any f front || f t) c.as_str.ensures.value
    ∙ any_step f string_bytes texts i c.text-item.result c.loop-text-test.true c.text-item.is in
    c.in_ok-note_use.ensures
    ∙ ap (λ (n : DraftNotes). with_noted (is_server_at n.settings text) (is_above_use n.settings name text) n)
    c.loop-text.invariant
    ∙ with_both_noted (is_server_among s front) (is_above_uses s name front) (is_server_at s text)
    (is_above_use s name text) d
    ∙ ap (λ (t : List ℕ → Bool). with_noted t (λ q. is_above_uses s name front q || is_above_use s name text q) d)
    (fun_ext (λ q. Step (λ x. is_server_at s x q)))
    ∙ ap (λ (t : List ℕ → Bool). with_noted (is_server_among s next) t d)
    (fun_ext (λ q. Step (λ x. is_above_use s name x q)))
