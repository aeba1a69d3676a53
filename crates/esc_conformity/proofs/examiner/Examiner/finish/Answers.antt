use Rattle.std.proofs.Common.{◌≡◌, ap, ◌∙◌}
use Rattle.esc_conformity.specs.Examined.{sharing_keys}
use Rattle.esc_conformity.specs.declared.rule.Rule.TheVariants.{Registrars, Nndns, Roids}
use Rattle.esc_conformity.specs.declared.rule.Rule.TheVariants.{Required, Outside, Digests}
use Rattle.esc_conformity.specs.declared.rule.Rule.TheVariants.{Addresses}
use Rattle.esc_conformity.specs.Flaws.{flaws}
use Rattle.esc_conformity.specs.Found.{keys_by}
use Rattle.esc_conformity.proofs.Sharing.{shared_are_told}
use Rattle.esc_conformity.proofs.examiner.Examiner.finish.Goals as goal

pub returns : goal.returns
returns c = λ tld es s survey had rule.
    elim rule as (λ rule. keys_by (record c.args.self.flaws { roids = c.in_ok-flaws.field-0 }) rule
    ≡ flaws rule tld es) [
      | Registrars ↦ had.found Registrars
      | Nndns ↦ had.found Nndns
      | Roids ↦ c.in_ok-flaws.ensures ∙ ap sharing_keys (c.deref.ensures.value ∙ had.suspects)
          ∙ shared_are_told s.marks.repeated es survey.marks.repeated
      | Required ↦ had.found Required
      | Outside ↦ had.found Outside
      | Digests ↦ had.found Digests
      | Addresses ↦ had.found Addresses
    ]
