use Rattle.std.proofs.Common.{◌≡◌, List, ℕ, Option, IfSome, map, sym, ap, subst, ◌∙◌}
use Rattle.esc_manifest.specs.declared.row.MRow.{MRow}
use Rattle.std.specs.FinSet as set
use Rattle.esc_chain.specs.Chain.{Rows, InRange, IsLatestChainAt}
use Rattle.esc_store.specs.StoreState.{step_at}
use Rattle.esc_events.specs.Plans.{rows_in_steps}
use Rattle.esc_desk.proofs.Moving.{rows_of_steps}
use Rattle.esc_desk.proofs.plan.latest_steps.Goals as goal

pub returns-clause-steps : goal.returns-clause-steps
returns-clause-steps c =
    let m = c.args.manifest.now in
    let made : c.in_ok-steps_of.field-0.items ≡ map (step_at m) c.deref.result.now =
    c.in_ok-steps_of.ensures
    ∙ ap (λ (k : List MRow). map (step_at k) c.deref.result.now) c.rows.ensures.rows in
    let rows : rows_in_steps c.in_ok-steps_of.field-0.items ≡ c.deref.result.now =
    ap rows_in_steps made ∙ rows_of_steps m c.deref.result.now in
    let held = subst (λ (o : Option Rows). IfSome o (λ h. h ≡ set.from_list c.args.rows.now))
    c.in_ok-held.ensures.ok_part c.in_ok-from_rows.ensures.held in
    let in_range = subst (λ (o : Option Rows). IfSome o (InRange m))
    c.in_ok-held.ensures.ok_part c.in_ok-from_rows.ensures.in_range in
    record {
      are_steps = made ∙ ap (map (step_at m)) (sym rows);
      accepted = c.rows.ensures.accepted;
      in_range = subst (InRange m) held in_range;
      latest = subst (λ (l : List ℕ). IsLatestChainAt m (set.from_list c.args.rows.now) c.args.moment l)
          (sym (rows ∙ c.deref.ensures.value))
          (subst (λ (h : Rows). IsLatestChainAt m h c.args.moment c.in_ok-chain.chain.items)
          held c.in_ok-chain.ensures.latest);
    }
