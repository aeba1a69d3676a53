use Rattle.std.proofs.Common.{List, ℕ, sym, subst, ◌∙◌}
use Rattle.esc_zone.specs.Names.{is_server_name}
use Rattle.esc_zone.specs.Drafts.{zone_notes}
use Rattle.esc_zone.specs.Delegations.{IsKeptServer}
use Rattle.esc_zone.proofs.Added.{made_if}
use Rattle.esc_zone.proofs.Said.{false_is}
use Rattle.esc_zone.proofs.draft.Draft.used_server.Goals as goal

pub returns-then-branch-clause-used : goal.returns-then-branch-clause-used
returns-then-branch-clause-used c =
    let z = zone_notes c.args.self.now in
    let made = made_if (is_server_name z.has_underscores c.args.text.now) c.args.text.now c.in-Some.host
    (sym c.in-Some.is ∙ c.in_ok-host.ensures) in (
      made.1,
      (
        made.0,
        subst (λ (t : List ℕ). IsKeptServer z c.args.name.now t) (sym made.1)
            (c.in_ok-is_used.ensures.used.0 c.if-branch.true),
      ),
    )

pub returns-clause-used : goal.returns-clause-used
returns-clause-used c = λ y h.
    let z = zone_notes c.args.self.now in
    let made = made_if (is_server_name z.has_underscores c.args.text.now) c.args.text.now c.in-Some.host
    (sym c.in-Some.is ∙ c.in_ok-host.ensures) in
    false_is _ c.if-branch.false
    (c.in_ok-is_used.ensures.used.1 (subst (λ (t : List ℕ). IsKeptServer z c.args.name.now t) made.1 h.1.1))
