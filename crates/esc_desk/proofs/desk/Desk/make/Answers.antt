use Rattle.std.proofs.Common.{rules, arith, Option, IfSome, refl, sym, ap, subst, ◌∙◌, true≢false}
use Rattle.esc_events.specs.declared.plan.Plan.{Plan}
use Rattle.esc_store.specs.StandingLaws.{survives_same}
use Rattle.esc_events.specs.declared.cache.Cache.{Cache}
use Rattle.esc_events.specs.Cache.{IsCacheOf}
use Rattle.esc_desk.specs.Decisions.{cache_after}
use Rattle.esc_desk.specs.Edits.{edited}
use Rattle.esc_desk.proofs.CauseLemmas.{if_err_is}
use Rattle.esc_desk.proofs.CrashLemmas.{leaves_for, leaves_unmade}
use Rattle.esc_desk.proofs.Deciding.{nothing_done}
use Rattle.esc_desk.proofs.Whole.{whole_err}
use Rattle.esc_desk.proofs.desk.Desk.make.Goals as goal

pub returns-in_err-done-clause-crash : goal.returns-in_err-done-clause-crash
returns-in_err-done-clause-crash g c = λ e doubtful x k stood decided left.
    if_err_is c.from_residual.result c.in_err-done.field-0.0 _ (search rules)
    (leaves_unmade g.S.Store c.args.self.now.store c.commit.new.store e doubtful x
    c.args.decision.edit.receipt c.in_err-done.field-0.0 left c.in_err-done.ensures.cause (λ clean.
    let is = decided clean in
    (is.stands, c.in_err-done.ensures.crash clean k is.moves stood)))

pub returns-in_err-done-clause-whole : goal.returns-in_err-done-clause-whole
returns-in_err-done-clause-whole g c =
    whole_err g.S.Store c.args.self.now _ c.in_err-done.field-0.0 (search rules)
    c.in_err-done.ensures.honest c.in_err-done.ensures.uncounted c.in_err-done.ensures.kept refl

pub returns-clause-whole : goal.returns-clause-whole
returns-clause-whole g c = record {
  honest = c.in_ok-done.ensures.honest;
  counted = c.in_ok-done.ensures.counted;
  uncounted = tt;
  lost = tt;
}

pub returns-then-is_empty-clause-whole : goal.returns-then-is_empty-clause-whole
returns-then-is_empty-clause-whole g c =
    record { honest = λ clean. clean; counted = omega arith; uncounted = tt; lost = tt }

pub returns-clause-made : goal.returns-clause-made
returns-clause-made g c = λ clean e x k stood is.
    let decision = c.args.decision in
    let done = c.in_ok-done.ensures.made clean k is.moves stood in
    let cache = c.cache_then.ensures ∙ ap (λ (p : Option Plan). cache_after p decision.cache) done.plan in
    record {
      serves = record {
        serves = record { kept = edited decision.edit k; stands = done.stands; stands_for = is.stands };
        remembers = subst (λ (o : Option Cache). IfSome o (IsCacheOf (edited decision.edit k))) (sym cache) is.knows;
      };
      works = is.works c.in_ok-done.done.work done.result.worked;
      result = done.result;
      left = λ some. leaves_for g.S.Store c.commit.new.store is.stands done.left;
      rests = λ empty. absurd (true≢false (sym empty ∙ (sym c.is_empty.ensures ∙ c.if-is_empty.false)));
    }

-- there is nothing to be made
pub returns-then-is_empty-clause-made : goal.returns-then-is_empty-clause-made
returns-then-is_empty-clause-made g c = λ clean e x k stood is.
    nothing_done g.S.Store _ _ is (sym c.is_empty.ensures ∙ c.if-is_empty.true) stood refl survives_same
