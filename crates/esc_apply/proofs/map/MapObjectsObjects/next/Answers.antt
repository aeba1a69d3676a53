use Rattle.std.proofs.Common.{◌≡◌, List, Option, Some, None, refl, sym, subst, ◌∙◌}
use Rattle.std.specs.Map.{keys_of}
use Rattle.std.specs.Map.Iter.{TakesFirst}
use Rattle.std.proofs.lemmas.Map.Keys.{sorted_tail}
use Rattle.esc_tables.specs.KeyName.{key_cmp}
use Rattle.esc_apply.specs.ObjectStreams.{Entry, GivesFirst, InOrder}
use Rattle.esc_apply.proofs.map.MapObjectsObjects.next.Goals as goal

-- the first of a list in order, with the rest after it
first : (s t es : List Entry) (o : Option Entry) → TakesFirst (λ (e : Entry). e) s o t
    → s ≡ es → InOrder es → GivesFirst (λ l. (t ≡ l) × InOrder l) es o
first s t es None step is order = (sym is ∙ step.0, (step.1, subst InOrder (sym is ∙ step.0) order))
first s t es (Some e) step is order = (
  t,
  sym is ∙ step,
  (refl, sorted_tail key_cmp e.0 (keys_of t) (subst InOrder (sym is ∙ step) order)),
)

pub returns-clause-given : goal.returns-clause-given
returns-clause-given c = λ honest es listed.
    first c.self.inside.rest
    c.next.new.self es c.next.result c.next.ensures.steps (c.self.view_is ∙ listed.0) listed.1
