use Rattle.std.proofs.Common.{◌≡◌, true, false, not, cond, ap, refl, sym, ◌∙◌, true≢false}
use Rattle.std.proofs.lemmas.Bool.{not-true}
use Rattle.std.specs.BTreeSet as sorted
use Rattle.esc_tables.specs.KeyName.{KeyName, key_cmp, key_eq}
use Rattle.esc_inspection.proofs.Marking.{marked_absent, unsaid}
use Rattle.esc_inspection.proofs.comparison.Comparison.mention_absent.Goals as goal
use Rattle.esc_inspection.proofs.comparison.Comparison.mention_absent.Goals.{then-self, else-self}
use Rattle.esc_inspection.proofs.comparison.Comparison.mention_absent.Goals.{then-is_new, else-is_new}

pub returns : goal.returns
returns c = λ es none.
    let copied = c.in_ok-copy.ensures in
    let old = c.args.self.now.absent in
    marked_absent es c.args.key.now _ c.args.self.now _ none refl
    (λ q. c.in_ok-is_new.ensures.updates.0 q
    ∙ ap (λ (k : KeyName). cond (key_eq k q) true (sorted.contains key_cmp old q)) copied)
    (λ same. elim c.if-self.branch [
      | then-self w ↦
          let right : w.if-is_new.self ≡ false = not-true w.if-is_new.self (sym w.self-is ∙ same) in (
            w.if-self.true,
            λ new. elim w.if-is_new.branch [
              | then-is_new v ↦ unsaid _ c.args.said (sym v.is_some.ensures ∙ sym v.self-is ∙ right)
              | else-is_new v ↦ absurd (true≢false (sym (c.in_ok-is_new.ensures.added
                  ∙ ap (λ (k : KeyName). not (sorted.contains key_cmp old k)) copied ∙ ap not new) ∙ v.if-is_new.false))
            ],
          )
      | else-self w ↦ absurd (true≢false (sym same ∙ w.self-is ∙ w.if-self.false))
    ])
