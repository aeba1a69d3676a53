use Rattle.std.proofs.Common.{List, Option, None, cond, eqb, ap, sym, subst, ◌∙◌}
use Rattle.std.specs.List.{IsDistinct}
use Rattle.std.specs.Map.{lookup, keys_of}
use Rattle.std.proofs.lemmas.Map.Keys.{IsDistinct-from_sorted}
use Rattle.esc_tables.specs.KeyName.{KeyName, key_cmp, key_eq}
use Rattle.esc_tables.specs.ObjectValue.{ObjectValue}
use Rattle.esc_apply.proofs.memory.MemRegistryRegistry.take_undo.Goals as goal

pub returns-clause-taken : goal.returns-clause-taken
returns-clause-taken c = λ honest s keeps.
    let found = c.taken-notes.ensures in
    let all = c.in_ok-entries.ensures in (
      record {
        once = subst (λ (es : List (KeyName × Option ObjectValue)). IsDistinct key_eq (keys_of es))
            (sym all.items) (IsDistinct-from_sorted key_cmp _ all.ordered);
        each = λ q. ap (λ (es : List (KeyName × Option ObjectValue)). lookup (key_eq q) es) all.items
            ∙ found.notes q ∙ sym (keeps.undo c.args.step q);
      },
      record {
        content = keeps.content;
        undo = λ j q. ap (λ (o : Option (Option ObjectValue)). cond (eqb c.args.step j) None o)
            (keeps.undo j q) ∙ sym (found.left j q);
      },
    )
