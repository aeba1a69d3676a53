use Rattle.std.proofs.Common.{◌∙◌, ℕ, List, [], length, get_or, Bor, subst}
use Rattle.std.specs.Prelude.{All}
use Rattle.std.proofs.lemmas.Result.{err_from_is_err_and}
use Rattle.esc_pack.specs.GivenRows.{has_width, IsHeaded}
use Rattle.esc_pack.specs.BundleRefusals.{IsFileRefusal, IsTableRefusal}
use Rattle.esc_pack.proofs.SectionFacts.{taken, All_next, file_at, all_taken, one_file, one_file_whole}
use Rattle.esc_pack.proofs.Refusals.{or_weaker, file_refused}
use Rattle.esc_pack.proofs.table_text.write_files.Goals as goal

pub loop-at-preserved : goal.loop-at-preserved
loop-at-preserved c =
    let nothing : Bor (List ℕ) = record { ref_ptr = (0, 0); now = [] } in
    let file = file_at nothing c.given.view_is c.deref-text-items.ensures.value c.loop-at-test.true in
    let fields = c.args.table.now.fields in
    let table = c.args.table.now in
    record {
      written = one_file _ file c.loop-at.invariant.written c.in_ok-write_file.ensures.written;
      whole = one_file_whole (has_width (length fields))
          file c.loop-at.invariant.whole c.in_ok-write_file.ensures.whole;
      headed = λ is.
          let headed = c.in_ok-write_file.ensures.headed (file.same_heading ∙ is) in
          All_next (IsHeaded table) _ (taken _ [] file.inside file.is) (c.loop-at.invariant.headed is) headed;
    }

pub returns-clause-headed : goal.returns-clause-headed
returns-clause-headed c =
    let end = all_taken c.given.view_is c.deref-text-items.ensures.value c.loop-at-test.false in
    λ is. subst (λ (fs : List (List ℕ)). All (IsHeaded c.args.table.now) fs) end (c.loop-at.invariant.headed is)

pub returns-in_err-write_file-clause-refused : goal.returns-in_err-write_file-clause-refused
returns-in_err-write_file-clause-refused c =
    let nothing : Bor (List ℕ) = record { ref_ptr = (0, 0); now = [] } in
    let file = file_at nothing c.given.view_is c.deref-text-items.ensures.value c.loop-at-test.true in
    let table = c.args.table.now in
    let text : List ℕ = (get_or c.deref-text-items.result.now c.loop-at.at nothing).now in
    let p = err_from_is_err_and c.from_residual.result c.from_residual.ensures.1 in
    rw (p.1, p.2)
    (or_weaker (IsFileRefusal table c.given.inside.has_heading text c.args.number c.loop-at.at)
    (IsTableRefusal (table, c.args.given.now) c.args.number)
    (λ e refused. file_refused table file refused) _ c.in_err-write_file.ensures.refused)
