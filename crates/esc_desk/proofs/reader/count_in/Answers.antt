use Rattle.std.proofs.Common.{◌≡◌, ◌∙◌, ℕ, length, Option, sym, ap, subst, IfOk}
use Rattle.std.specs.Option.{unwrap_or}
use Rattle.std.proofs.lemmas.Result.{IfOk-weaker}
use Rattle.esc_envelope.specs.declared.kind.Kind.{Kind}
use Rattle.esc_desk.specs.Walking.{of_kinds}
use Rattle.esc_desk.proofs.CountLemmas.{count_there, sum_is}
use Rattle.esc_desk.proofs.reader.count_in.Goals as goal

pub returns-in-None-clause-count : goal.returns-in-None-clause-count
returns-in-None-clause-count c = λ content are es all.
    subst (λ (kind : Option Kind). IfOk c.total.result (λ total. total ≡ length (of_kinds kind es))) (sym c.in-None.is)
    (IfOk-weaker c.total.result _ _ (λ total is. is ∙ sum_is content es _ all are) c.total.ensures.sum)

pub returns-in-Some-clause-count : goal.returns-in-Some-clause-count
returns-in-Some-clause-count c = λ content are es all.
    c.unwrap_or.ensures
    ∙ ap (λ (o : Option ℕ). unwrap_or o 0) (c.copied.ensures ∙ c.get.ensures.value
    ∙ count_there content es all c.args.counts.now.entries c.in-Some.kind are)
    ∙ ap (λ (kind : Option Kind). length (of_kinds kind es)) (sym c.in-Some.is)
