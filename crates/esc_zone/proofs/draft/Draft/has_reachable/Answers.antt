use Rattle.std.proofs.Common.{◌≡◌, sym, inl, inr, refl, subst, List, ℕ, take_all, true, ap, ◌∙◌}
use Rattle.esc_zone.specs.Drafts.{zone_notes}
use Rattle.esc_zone.specs.Noted.{is_among_names, IsReachable}
use Rattle.esc_zone.proofs.Said.{false_is}
use Rattle.esc_zone.proofs.Settled.{among_next, among_here}
use Rattle.esc_zone.proofs.draft.Draft.has_reachable.Goals as goal

pub loop-host-init : goal.loop-host-init
loop-host-init c = λ q m r. absurd (cc m)

pub loop-host-preserved : goal.loop-host-preserved
loop-host-preserved c = λ q m r.
    let z = zone_notes c.args.self.now in
    elim (among_next c.args.hosts.now c.loop-host.host-index c.host-item.result q c.loop-host-test.true
    c.host-item.is m) [
      | inl before ↦ c.loop-host.invariant q before r
      | inr same ↦ false_is _ c.if-is_reachable.false (c.is_reachable.ensures.1
          (subst (λ (h : List ℕ). IsReachable z.is_given z.said h) (sym same) r))
    ]

pub returns-then-is_reachable : goal.returns-then-is_reachable
returns-then-is_reachable c = (
  λ t. (
    c.host-item.result,
    among_here c.args.hosts.now c.loop-host.host-index c.host-item.result c.loop-host-test.true c.host-item.is,
    c.is_reachable.ensures.0 c.if-is_reachable.true,
  ),
  λ h. refl,
)

pub returns : goal.returns
returns c =
    let all = take_all c.loop-host.host-index c.args.hosts.now c.loop-host-test.false in (
      λ t. cc,
      λ h. absurd (c.loop-host.invariant h.0
          (ap (λ (l : List (List ℕ)). is_among_names l h.0) all ∙ h.1) h.2),
    )
