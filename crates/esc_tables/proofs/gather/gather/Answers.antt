use Rattle.std.proofs.Common.{◌≡◌, ◌≤◌, ◌∙◌, ◌+◌, ◌++◌, ◌∷◌, [], ℕ, Bool, sym, ap}
use Rattle.std.proofs.Common.{refl, arith, length, cond, append_assoc, List, rules}
use Rattle.std.specs.Prelude.{not, is_some}
use Rattle.std.proofs.lemmas.List.{length_push}
use Rattle.std.proofs.lemmas.Grind.{common_steps}
use Rattle.esc_tables.specs.KeyName.{KeyName}
use Rattle.esc_tables.specs.ObjectValue.{RowValue}
use Rattle.esc_tables.specs.Objects.{has_pair, object_of, orphans_of}
use Rattle.esc_tables.proofs.ChildFacts.{parents_found, object_more, object_is_some, orphans_more, entries_are}
use Rattle.esc_tables.proofs.gather.gather.Goals as goal
use Rattle.esc_tables.proofs.gather.gather.Goals.{then-not-branch, else-not-branch}

pub loop-key-init : goal.loop-key-init
loop-key-init c = record {
  gathered = parents_found c.args.parents.items c.in_ok-objects.objects c.in_ok-objects.ensures;
  ordered = c.in_ok-objects.ensures.1;
  counted = refl;
  few = omega arith;
  whole = search rules;
}

pub loop-key-preserved : goal.loop-key-preserved
loop-key-preserved c =
    let steps = c.in-Some.ensures.steps in
    let inv = c.loop-key.invariant in
    let parents = c.args.parents.items in
    let before = c.loop-key.yielded in
    let row : KeyName × RowValue = (c.in-Some.key, c.in-Some.row) in
    let len : length (before ++ (row ∷ [])) ≡ length before + 1 = length_push before row in
    let there : c.in_ok-add_child.field-0 ≡ has_pair parents c.in-Some.key =
    c.in_ok-add_child.ensures.found
    ∙ ap is_some (inv.gathered c.in-Some.key) ∙ object_is_some parents before c.in-Some.key in
    let count : orphans_of parents (before ++ (row ∷ []))
    ≡ c.loop-key.orphans + cond (not c.in_ok-add_child.field-0) 1 0 =
    orphans_more parents before row ∙ ap (λ (n : ℕ). n + cond (not (has_pair parents c.in-Some.key))
    1 0) (sym inv.counted) ∙ ap (λ (b : Bool). c.loop-key.orphans + cond (not b) 1 0) (sym there) in
    let now : (c.if-not-branch.orphans ≡ c.loop-key.orphans + cond (not c.in_ok-add_child.field-0) 1 0)
    × (c.if-not-branch.orphans ≤ c.loop-key.orphans + 1) =
    elim c.if-not-branch.branch [
      | then-not-branch w
          ↦ (rw (w.orphans-is, w.if-not-branch.true) refl, omega (arith, w.orphans-is))
      | else-not-branch
          w ↦ (rw (w.orphans-is, w.if-not-branch.false) (omega arith), omega (arith, w.orphans-is))
    ] in
    record {
      gathered = λ k. object_more parents before row c.loop-key.objects
          c.add_child.new.objects k (inv.gathered k) (c.in_ok-add_child.ensures.added k);
      ordered = c.in_ok-add_child.ensures.ordered;
      counted = now.0 ∙ sym count;
      few = omega (arith, now.1, inv.few, len);
      whole = append_assoc before _ _
          ∙ ap (λ (l : List (KeyName × RowValue)). before ++ l) (sym steps.0) ∙ inv.whole;
    }

pub returns-clause-objects : goal.returns-clause-objects
returns-clause-objects c =
    let all : c.loop-key.yielded ≡ c.args.children.items = grind (arith, common_steps) in
    entries_are c.args.parents.items c.args.children.items
    c.loop-key.objects c.loop-key.invariant.ordered (λ k. c.loop-key.invariant.gathered k
    ∙ ap (λ (cs : List (KeyName × RowValue)). object_of c.args.parents.items cs k) all)
