use Rattle.std.proofs.Common.{sym, subst, ◌∙◌}
use Rattle.std.proofs.lemmas.Bool.{and_parts}
use Rattle.sqlite_trees.proofs.Doubt.{clean_of}
use Rattle.sqlite_store.specs.Unopened.{state_of, image}
use Rattle.sqlite.specs.Opening.{HoldsAt}
use Rattle.esc_scan.specs.Opening.{IsHeldAt}
use Rattle.esc_scan.proofs.CloseLemmas.{closed_clean, closed_image, held_after, still_held, trees_before}
use Rattle.esc_scan.proofs.opening.listed_trees.Goals as goal

pub returns-then-not-branch-clause-honest : goal.returns-then-not-branch-clause-honest
returns-then-not-branch-clause-honest g c now =
    c.list_tables.ensures.honest
    (closed_clean c.list_tables.new.files c.close.result.log c.close.result.db c.close.ensures now)

pub returns-then-not-branch-clause-opened : goal.returns-then-not-branch-clause-opened
returns-then-not-branch-clause-opened g c now =
    let old = c.args.files in
    let mid = c.list_tables.new.files in
    let left = c.close.result in
    let size = (state_of old).page_size in
    let was = c.in_ok-list_tables.ensures.same (closed_clean mid left.log left.db c.close.ensures now) in
    subst (λ i. IsHeldAt size (image old) i) (closed_image mid left.log left.db c.close.ensures)
    (still_held size (image old) (image mid) was.pages was.found was.again)

pub typed_trees-requires-clause-tables : goal.typed_trees-requires-clause-tables
typed_trees-requires-clause-tables g c = c.in_ok-list_tables.ensures.tables c.if-not-branch.false

pub returns-in-Ok-clause-honest : goal.returns-in-Ok-clause-honest
returns-in-Ok-clause-honest g c now = c.list_tables.ensures.honest (c.in-Ok.ensures.honest (clean_of _ now))

pub returns-in-Ok-clause-opened : goal.returns-in-Ok-clause-opened
returns-in-Ok-clause-opened g c now =
    let old = c.args.files in
    let mid = c.list_tables.new.files in
    let clean = clean_of _ now in
    let was = c.in_ok-list_tables.ensures.same (c.in-Ok.ensures.honest clean) in
    let there = still_held (state_of old).page_size (image old) (image mid) was.pages was.found was.again in (
      λ db content held is. c.in-Ok.ensures.reads clean db content
          (subst (λ n. HoldsAt n (image mid) db) (sym was.size) (there db held)) is,
      trees_before old mid _ was (c.in-Ok.ensures.found clean),
    )

pub returns-then-may_be_used-clause-of_use : goal.returns-then-may_be_used-clause-of_use
returns-then-may_be_used-clause-of_use g c = and_parts _ _ (sym c.may_be_used.ensures ∙ c.if-may_be_used.true)

pub returns-then-may_be_used-clause-honest : goal.returns-then-may_be_used-clause-honest
returns-then-may_be_used-clause-honest g c now =
    let left = c.close-files.result in
    c.list_tables.ensures.honest
    (c.in-Err.ensures.falls (closed_clean c.in-Err.left left.log left.db c.close-files.ensures now))

pub returns-then-may_be_used-clause-opened : goal.returns-then-may_be_used-clause-opened
returns-then-may_be_used-clause-opened g c now =
    let old = c.args.files in
    let mid = c.list_tables.new.files in
    let back = c.in-Err.left in
    let left = c.close-files.result in
    let clean = closed_clean back left.log left.db c.close-files.ensures now in
    let was = c.in_ok-list_tables.ensures.same (c.in-Err.ensures.falls clean) in
    subst (λ i. IsHeldAt (state_of old).page_size (image old) i)
    (closed_image back left.log left.db c.close-files.ensures)
    (held_after g.met.D.Disk.seen_may_stay old mid back was (c.in-Err.ensures.unharmed clean) clean)
