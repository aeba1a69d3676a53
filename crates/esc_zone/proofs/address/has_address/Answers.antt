use Rattle.std.proofs.Common.{sym, inl, inr, refl, subst, List, take_all, ◌∙◌}
use Rattle.esc_zone.specs.declared.address.Said.{Said}
use Rattle.esc_zone.specs.Addresses.{HasAddress, said_texts}
use Rattle.esc_zone.proofs.Said.{among_split, among_at, refused_text, read_text}
use Rattle.esc_zone.proofs.address.has_address.Goals as goal

pub returns : goal.returns
returns c =
    let all = take_all c.loop-row.row-index c.args.rows.now c.loop-row-test.false in (
      λ t. cc,
      λ h. absurd (c.loop-row.invariant (subst (λ (rs : List Said). HasAddress (said_texts rs)) (sym all) h)),
    )

pub loop-row-preserved : goal.loop-row-preserved
loop-row-preserved c = λ h.
    let row = c.row-item.result in
    elim (among_split c.args.rows.now c.loop-row.row-index h.0 row c.row-item.is h.1) [
      | inl before ↦ c.loop-row.invariant (h.0, before)
      | inr here ↦ refused_text _ c.address.result (sym c.is_ok.ensures.value ∙ c.if-is_ok.false)
          c.address.ensures h.0 here
    ]

pub loop-row-init : goal.loop-row-init
loop-row-init c = λ h. h.1

pub returns-then-is_ok : goal.returns-then-is_ok
returns-then-is_ok c =
    let row = c.row-item.result in
    let is = read_text _ c.address.result (sym c.is_ok.ensures.value ∙ c.if-is_ok.true) c.address.ensures in (
      λ t. (
        is.0,
        among_at c.args.rows.now c.loop-row.row-index is.0 row c.row-item.is
            c.loop-row-test.true is.1,
      ),
      λ h. refl,
    )
