use Rattle.std.proofs.Common.{◌≡◌, ℕ, ℤ, ◌++◌, List, length, Option, sym, ap, subst, subst₂, ◌∙◌}
use Rattle.esc_manifest.specs.declared.row.MRow.{MRow}
use Rattle.esc_manifest.specs.Accepted.{IsAccepted}
use Rattle.esc_manifest.specs.Extension.{extended}
use Rattle.esc_store.specs.StandingLaws.{was_honest}
use Rattle.esc_events.specs.Plans.{AreLatestSteps}
use Rattle.esc_desk.specs.Judging.{AreJudged}
use Rattle.esc_desk.proofs.AmendSteps.{IsListing, decided_amended}
use Rattle.esc_desk.proofs.amendment.decide_union.Goals as goal

pub returns-clause-decided : goal.returns-clause-decided
returns-clause-decided g c = λ clean e k more stood stands knows united.
    let n = c.args.union in
    let rows = c.append_rows.new.rows.items in
    let plan = c.in_ok-plan.ensures in
    let judged = c.in_ok-judged.ensures.same.stands k stood in
    let first : c.rows-from.result.now ≡ k.listed = c.rows-from.ensures.rows ∙ c.manifest.ensures.kept k stood in
    let is : IsListing e k more n c.args.cache c.in_ok-judged.judged rows c.in_ok-plan.plan = record {
      stood = stands;
      is_union = united ∙ ap (λ (m : List MRow). extended m more) (sym stands.books.listed);
      first = subst IsAccepted (c.manifest.ensures.kept k stood) c.rows-from.ensures.accepted;
      accepted = c.rows.ensures.accepted;
      knows = knows;
      are_judged = subst₂ (λ (m : List MRow) (from : ℕ). AreJudged
          m k.parked from c.in_ok-judged.judged) c.rows.ensures.rows (ap length first)
          (c.in_ok-judged.ensures.judged (was_honest c.in_ok-moment.ensures.same clean) k stood);
      are_held = c.in_ok-append_rows.ensures
          ∙ ap (λ (xs : List ℕ). c.args.cache.held_rows.items ++ xs) c.deref.ensures.value;
      latest = subst (λ (t : Option ℤ). AreLatestSteps n rows t c.in_ok-plan.plan.new.items)
          (c.in_ok-moment.ensures.moment clean k judged) plan.latest;
      old = plan.old ∙ knows.chain;
    } in
    decided_amended is c.latest_chain_at_rows_are_held.ensures c.read_deposits_mention_few.ensures
    plan.sound _ (ap (λ v. v.items) plan.held) (ap (λ v. v.items) plan.told)
